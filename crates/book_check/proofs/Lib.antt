pub mod Chain
pub mod Fits
