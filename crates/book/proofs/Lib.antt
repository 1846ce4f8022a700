pub mod Below
pub mod Good
pub mod Parts
