-- Which types of a section are kept: definitions at a value of the code.
pub mod AtKept
