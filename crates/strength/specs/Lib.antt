pub mod Strength
pub mod Code
