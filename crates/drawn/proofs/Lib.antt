pub mod Cases
pub mod Ends
pub mod Exact
pub mod Strains
pub mod Within
pub mod Literals
