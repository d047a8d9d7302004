-- Marks: the marks and the stack, as the code changes them. Marking: both at a value of the code.
pub mod Marks
pub mod Marking
