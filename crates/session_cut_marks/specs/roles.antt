-- Words: the words of a record and what they are.
pub mod Words
