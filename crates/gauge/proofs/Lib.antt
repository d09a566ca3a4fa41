pub mod Lines
pub mod Counting
pub mod Shortage
pub mod Sums
