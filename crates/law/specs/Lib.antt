pub mod Edition
pub mod Law
pub mod Ranges
pub mod Stress
pub mod Sizes
