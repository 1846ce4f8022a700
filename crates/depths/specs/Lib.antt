pub mod Depths
pub mod Row
pub mod Answers
pub mod Code
pub mod Runs
pub mod Walk
