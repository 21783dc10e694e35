pub mod Shown
pub mod Steps
pub mod Valid
pub mod Glanced
pub mod Given
