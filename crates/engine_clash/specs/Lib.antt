pub mod LeastClash
pub mod Clash
pub mod Steps
