pub mod Numerals
pub mod Layout
pub mod Forms
pub mod Checks
pub mod Lines
pub mod Tables
pub mod Texts
pub mod Laws
