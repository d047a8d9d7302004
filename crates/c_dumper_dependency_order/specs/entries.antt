-- Entries: the types that members and parameters name.
pub mod Entries
