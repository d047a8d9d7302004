pub mod Claims
pub mod Samples
