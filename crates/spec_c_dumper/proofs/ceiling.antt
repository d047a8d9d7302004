pub mod Counted
pub mod Plain
