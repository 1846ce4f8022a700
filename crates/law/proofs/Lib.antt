pub mod Ranges
pub mod Sizes
pub mod Bounds
pub mod Continuous
pub mod Sides
pub mod Answers
