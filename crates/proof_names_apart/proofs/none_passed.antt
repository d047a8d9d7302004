pub mod Stops
pub mod Lines
pub mod Exactly
pub mod Probe
pub mod Samples
pub mod Claims
