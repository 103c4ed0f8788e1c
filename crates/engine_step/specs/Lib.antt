pub mod Call
pub mod Leaves
pub mod Stages
pub mod Entry
