pub mod Parts
pub mod Lines
pub mod Accepted
pub mod Back
