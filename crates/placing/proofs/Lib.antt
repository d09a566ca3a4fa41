pub mod Seating
pub mod Clearing
pub mod Taking
pub mod Whole
pub mod Lowest
pub mod Counting
pub mod FirstFitLaw
