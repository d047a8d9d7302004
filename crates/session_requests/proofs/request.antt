pub mod Bare
pub mod Entries
pub mod Laws
pub mod Pens
pub mod Listed
pub mod One
