pub mod Views
pub mod Cases
pub mod Sheets
