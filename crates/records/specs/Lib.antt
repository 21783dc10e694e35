pub mod Buffer
pub mod Growth
pub mod Insertion
pub mod Order
