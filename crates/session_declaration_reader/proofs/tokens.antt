-- Laws of the tokens' definitions.
pub mod Cases
pub mod Bytes
pub mod Places
