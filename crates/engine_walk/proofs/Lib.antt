pub mod Steps
pub mod Forall
pub mod Kept
pub mod RuleKinds
