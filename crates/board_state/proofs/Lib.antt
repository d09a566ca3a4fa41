pub mod Seeing
pub mod Lasting
pub mod Seating
