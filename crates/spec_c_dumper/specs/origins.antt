pub mod Causes
pub mod Claims
pub mod Lines
pub mod Samples
