pub mod Queued
pub mod Fronts
pub mod Opens
