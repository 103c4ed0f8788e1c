pub mod Print
pub mod Split
pub mod Shown
pub mod Reported
