pub mod Crowding
pub mod Finding
pub mod Changing
pub mod Topmost
