pub mod Code
pub mod Given
