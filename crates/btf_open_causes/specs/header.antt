-- The header as the code reads it, and what the types of a table need of it.
pub mod Header
