-- Laws of names, of classes and the hash table, of counts; the claims; an example. A crate above cites Count and Ledger.
pub mod Names
pub mod Fill
pub mod Laws
pub mod Count
pub mod Keys
pub mod Ledger
pub mod Examples
