pub mod Parts
pub mod Places
