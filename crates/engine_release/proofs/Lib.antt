pub mod Next
pub mod ByPlace
pub mod Arguments
pub mod Upto
pub mod Runs
