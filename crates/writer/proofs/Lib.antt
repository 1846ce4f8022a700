pub mod Walk
pub mod Puts
pub mod Strings
pub mod Turns
pub mod Books
pub mod Layers
pub mod Reading
pub mod Back
