pub mod Marks
pub mod RunTables
pub mod Runs
pub mod Stages
pub mod Calls
pub mod Checks
pub mod Opens
pub mod Reasons
