-- Bytes: what is written. OfType: what is said of a kept type.
pub mod Bytes
pub mod OfType
