pub mod bases
pub mod grammar
pub mod reader
pub mod tokens
