pub mod Order
pub mod Pairs
pub mod Sifting
pub mod Sorted
pub mod Held
pub mod Calls
pub mod Leaving
