pub mod Parts
pub mod Labels
pub mod Members
