pub mod Roots
pub mod Ranges
pub mod Flange
pub mod Theorems
