pub mod Why
pub mod Behind
