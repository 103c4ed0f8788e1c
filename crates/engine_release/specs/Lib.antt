pub mod Part
pub mod Steps
