pub mod Defaults
pub mod Entries
