pub mod Program
pub mod Stored
pub mod Claims
pub mod Samples
