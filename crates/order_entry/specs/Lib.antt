pub mod MovesMade
pub mod LogRun
pub mod Promised
