pub mod Powers
pub mod Digits
pub mod Theorems
