pub mod Case
pub mod Block
pub mod Instruction
pub mod Putting
pub mod Formed
pub mod Given
