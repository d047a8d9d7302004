-- The hash before a suffix: a law for each turn, and that it is the base's hash.
pub mod Based
pub mod Before
pub mod Found
