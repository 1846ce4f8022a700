pub mod Drawn
pub mod Pieces
