pub mod Ordering
pub mod Emission
pub mod Claims
pub mod Samples
