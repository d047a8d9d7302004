pub mod alignment_once
pub mod ceiling
pub mod listed_twice
pub mod names_apart
pub mod needs
pub mod origins
pub mod rules
