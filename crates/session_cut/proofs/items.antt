-- Described: a described type, renamed, is written word by word. Places: the words that the code reads by its tables are those words.
pub mod Described
pub mod Places
