pub mod Strains
pub mod Strips
pub mod Bars
pub mod Summed
pub mod Answers
pub mod Rounded
pub mod Common
