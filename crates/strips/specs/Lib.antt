pub mod Strips
pub mod Closed
pub mod Bounds
pub mod Code
