pub mod Plans
pub mod Checks
pub mod Laws
