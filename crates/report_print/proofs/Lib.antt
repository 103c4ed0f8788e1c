pub mod Lines
pub mod Split
pub mod Printed
