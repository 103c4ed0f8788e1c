pub mod Walk
pub mod WalkMarks
