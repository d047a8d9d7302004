-- Texts: the text of a pad, and of a line of its own.
pub mod Texts
