pub mod Overfilling
pub mod Passing
pub mod Deciding
