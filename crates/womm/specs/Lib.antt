pub mod Exports
pub mod Asking
pub mod Handing
pub mod Typing
