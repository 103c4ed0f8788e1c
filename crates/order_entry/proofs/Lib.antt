pub mod Longer
pub mod Moves
