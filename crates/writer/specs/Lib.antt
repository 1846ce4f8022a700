pub mod Records
pub mod Written
pub mod Code
