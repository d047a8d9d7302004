-- Laws of texts and of decimal digits, that the proofs of this crate and of the crates above cite.
pub mod TextLaws
pub mod DecimalLaws
pub mod Digits
