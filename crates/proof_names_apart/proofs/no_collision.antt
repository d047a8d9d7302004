pub mod Keys
pub mod Holders
pub mod Right
