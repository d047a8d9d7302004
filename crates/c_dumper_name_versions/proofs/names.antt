-- Resolve: what is written with a name that was resolved. Spellings: names as they are printed.
pub mod Resolve
pub mod Spellings
