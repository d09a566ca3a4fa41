pub mod Commands
pub mod Folds
pub mod Scripts
