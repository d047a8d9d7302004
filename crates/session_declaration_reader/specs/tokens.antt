pub mod Tokens
pub mod Looking
