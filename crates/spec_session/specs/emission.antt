pub mod Slices
pub mod Tagged
