pub mod Formula
pub mod Refused
pub mod Answers
pub mod Order
pub mod Alike
pub mod Satisfied
pub mod Figures
