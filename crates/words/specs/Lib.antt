pub mod Small
pub mod Refusals
pub mod Sets
pub mod Numbers
