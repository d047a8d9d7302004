-- Laws of words, that the proofs of this crate and of the crates above cite.
pub mod Laws
pub mod ThreeLaws
