pub mod Kept
pub mod Leaders
pub mod Requests
