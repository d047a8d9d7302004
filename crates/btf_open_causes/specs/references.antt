-- Followed: the ids that a type follows. References: cause 6. Any, Bounds, Zeros: what causes 7 and 8 need too.
pub mod Any
pub mod Followed
pub mod Bounds
pub mod References
pub mod Zeros
