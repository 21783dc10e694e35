pub mod Behind
pub mod Digits
pub mod Rows
pub mod Pieces
