pub mod TermKinds
pub mod Leaves
pub mod Marking
pub mod Values
