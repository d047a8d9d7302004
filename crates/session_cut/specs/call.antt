-- Calls: what the call comes to. Code: what its private functions promise.
pub mod Calls
pub mod Code
