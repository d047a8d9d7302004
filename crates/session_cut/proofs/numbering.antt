-- Claims: the theorem. Marks: the closed marks are those of the reached ids. Numbers: tags and numbers.
pub mod Claims
pub mod Marks
pub mod Numbers
mod Examples
