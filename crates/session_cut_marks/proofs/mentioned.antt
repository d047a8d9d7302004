-- Laws: a law for each return. Sizes: what is measured is what is written.
pub mod Laws
pub mod Sizes
