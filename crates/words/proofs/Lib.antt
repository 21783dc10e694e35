pub mod Bools
pub mod Sets
pub mod First
pub mod Passed
pub mod Lists
