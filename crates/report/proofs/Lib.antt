pub mod Split
pub mod Cases
pub mod Examples
pub mod Tallies
