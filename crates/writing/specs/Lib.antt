pub mod Laying
pub mod Texts
