pub mod Shear
pub mod Code
