pub mod Places
pub mod First
pub mod Views
