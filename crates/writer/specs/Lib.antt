pub mod Puts
pub mod Written
