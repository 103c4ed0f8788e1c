pub mod Laws
pub mod Best
pub mod Rivals
