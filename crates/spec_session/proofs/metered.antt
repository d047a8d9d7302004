pub mod Claims
pub mod Laws
pub mod ListClaims
pub mod Idle
