pub mod Binding
pub mod Refusing
pub mod Entering
pub mod Ordering
pub mod Keeping
