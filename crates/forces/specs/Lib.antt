pub mod Forces
pub mod Axis
pub mod Answers
pub mod Code
