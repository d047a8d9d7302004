-- Store: a list of stored names. Strings: the new names that the code writes are the stored ones. Places: where it finds them.
pub mod Store
pub mod Strings
pub mod Places
