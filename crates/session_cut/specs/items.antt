-- The words of a record, each with what it is.
pub mod Items
