pub mod Part
pub mod StoredNodes
pub mod NodeKinds
