pub mod Sequential
pub mod InOrder
pub mod Escapes
