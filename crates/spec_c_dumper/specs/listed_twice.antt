pub mod Twice
pub mod Samples
