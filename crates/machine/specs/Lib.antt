pub mod Fit
pub mod Word
pub mod Shown
pub mod Kept
pub mod Valid
pub mod Given
pub mod Lent
