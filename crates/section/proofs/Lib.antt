pub mod Layers
pub mod Rising
pub mod Accepted
pub mod Inserted
pub mod Load
pub mod Centroid
pub mod Widths
