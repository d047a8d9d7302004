pub mod Naming
pub mod Apart
pub mod Samples
