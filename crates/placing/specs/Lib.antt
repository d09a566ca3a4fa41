pub mod Order
pub mod FirstFit
pub mod Outcome
pub mod Scratch
pub mod Laws
