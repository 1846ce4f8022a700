pub mod Section
pub mod Refusal
pub mod Added
pub mod Accepted
pub mod Has
