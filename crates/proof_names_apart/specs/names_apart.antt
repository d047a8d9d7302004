pub mod Alike
pub mod Claims
