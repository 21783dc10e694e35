pub mod Within
pub mod Rows
pub mod Descent
pub mod Settled
pub mod Held
pub mod Refusing
pub mod Gathered
pub mod Exact
