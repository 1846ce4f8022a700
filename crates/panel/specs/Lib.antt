pub mod Answers
pub mod Face
