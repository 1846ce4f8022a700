pub mod Ladder
pub mod Refused
