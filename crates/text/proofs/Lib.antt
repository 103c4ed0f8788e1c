pub mod Words
pub mod Found
pub mod Fields
pub mod Checks
