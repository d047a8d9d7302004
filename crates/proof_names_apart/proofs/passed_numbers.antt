pub mod Search
pub mod Passed
pub mod Suffixes
