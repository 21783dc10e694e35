pub mod Grows
pub mod Numbered
pub mod HandOver
pub mod Happens
pub mod Racing
pub mod Samples
