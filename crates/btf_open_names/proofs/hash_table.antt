-- Laws of the table of holders by hash. A crate above cites Places and Laws.
pub mod Places
pub mod Laws
