pub mod UpToTen
pub mod Checks
pub mod Fired
pub mod Whole
pub mod Stages
pub mod Longer
