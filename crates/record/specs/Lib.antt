pub mod Record
pub mod Alone
pub mod Filed
pub mod Held
