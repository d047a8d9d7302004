pub mod Listed
pub mod Walk
