pub mod Watched
pub mod Samples
pub mod Claims
