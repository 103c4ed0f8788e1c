pub mod Laws
pub mod Places
pub mod Faults
pub mod Scan
