-- Laws: a law for each return.
pub mod Laws
