pub mod Fixed
pub mod Spelled
