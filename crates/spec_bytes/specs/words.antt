pub mod Words
pub mod Three
