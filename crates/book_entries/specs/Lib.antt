pub mod Roll
pub mod Pass
