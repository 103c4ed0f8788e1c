pub mod RunTables
pub mod Runs
pub mod Stages
pub mod Checked
pub mod Promised
