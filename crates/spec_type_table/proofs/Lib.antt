-- Laws of work words and section words that the proofs of this crate and of the crates above cite.
pub mod Laws
pub mod KindLaws
pub mod KindNames
pub mod KindExtra
pub mod KindTypes
pub mod NameLaws
pub mod Frame
pub mod Documented
