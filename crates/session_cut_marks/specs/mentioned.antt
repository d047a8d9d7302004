-- Names: which names are stored, and where. Strings: the new names as they are written.
pub mod Names
pub mod Strings
