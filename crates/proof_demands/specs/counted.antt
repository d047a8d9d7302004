-- Counted: the count in the definition, and the record's.
pub mod Counted
