pub mod signed
pub mod text
pub mod words
