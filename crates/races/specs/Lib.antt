pub mod Happens
pub mod Race
pub mod Test
pub mod Samples
