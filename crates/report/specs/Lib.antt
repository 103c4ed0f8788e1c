pub mod Report
pub mod Open
pub mod Cases
pub mod Examples
pub mod Tallies
