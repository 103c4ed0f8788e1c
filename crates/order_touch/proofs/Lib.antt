pub mod Sets
pub mod Best
pub mod Fired
