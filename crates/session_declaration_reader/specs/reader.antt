pub mod Reading
pub mod Encoding
