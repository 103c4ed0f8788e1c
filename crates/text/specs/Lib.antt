pub mod Words
pub mod Refusals
pub mod Text
pub mod Quoted
pub mod Scan
