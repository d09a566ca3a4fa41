pub mod Collecting
pub mod Few
