pub mod Equal
pub mod Spaces
