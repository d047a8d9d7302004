-- Claims: the theorem. Ids: the numbers. Record: a record. Types: all of them. Alike: types renamed alike, and the header.
pub mod Claims
pub mod Ids
pub mod Record
pub mod Types
pub mod Alike
