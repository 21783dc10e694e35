mod Marks
mod One
pub mod Asking
pub mod Handing
pub mod Typing
