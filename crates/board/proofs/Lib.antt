pub mod Settling
pub mod Gathering
pub mod Playing
pub mod Copying
