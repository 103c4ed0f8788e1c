pub mod Chaining
pub mod Parts
pub mod Loops
pub mod Lines
pub mod Answers
pub mod Agents
