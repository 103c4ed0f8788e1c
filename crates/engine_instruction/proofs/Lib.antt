pub mod Coding
pub mod Lists
pub mod Laws
pub mod Strides
pub mod Scans
