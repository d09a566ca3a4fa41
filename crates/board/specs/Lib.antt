pub mod Calls
pub mod Loads
pub mod Runs
