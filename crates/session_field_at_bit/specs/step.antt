-- Path: the walk on the rules' table. Code: what the code's answers say of a step and of an entry.
pub mod Path
pub mod Code
