pub mod Notes
pub mod Declared
pub mod Renamed
pub mod Samples
