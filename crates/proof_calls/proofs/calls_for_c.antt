pub mod Visits
pub mod Bytes
pub mod Opened
pub mod Claims
