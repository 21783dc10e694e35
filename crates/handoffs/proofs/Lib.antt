pub mod Either
pub mod Level
pub mod Shapes
pub mod Fitting
pub mod Sound
pub mod Verdicts
pub mod Turns
pub mod Parts
