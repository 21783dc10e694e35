pub mod Issued
pub mod Given
