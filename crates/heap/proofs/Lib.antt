pub mod Sifting
pub mod Parting
pub mod Holding
pub mod Sorting
pub mod Popping
pub mod Draining
