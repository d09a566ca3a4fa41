pub mod Scanning
pub mod Foremosts
