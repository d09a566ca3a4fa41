pub mod Duties
pub mod Boards
pub mod Figures
