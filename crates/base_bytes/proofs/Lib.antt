-- Laws of loops.
pub mod TryFolds
mod Copies
