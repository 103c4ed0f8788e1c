pub mod Bindings
pub mod Marks
