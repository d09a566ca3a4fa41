pub mod Fronts
pub mod Recorded
pub mod Turns
pub mod ReadLaw
