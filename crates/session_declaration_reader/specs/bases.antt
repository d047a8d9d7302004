pub mod Bases
pub mod Items
pub mod Looking
pub mod Entries
