pub mod Written
pub mod Places
pub mod Decoding
pub mod Enough
pub mod Drawn
pub mod Samples
