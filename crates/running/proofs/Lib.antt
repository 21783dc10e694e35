pub mod Operands
pub mod Seeing
pub mod Records
pub mod Draining
pub mod Running
