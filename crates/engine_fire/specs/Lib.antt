pub mod Outcome
pub mod Steps
pub mod Effect
pub mod Finish
pub mod Count
pub mod Reasons
