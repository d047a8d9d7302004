-- Answers: what an answer of the code says.
pub mod Answers
