pub mod Plain
pub mod Accepted
pub mod Short
pub mod Closed
pub mod Claims
