-- Samples of the texts of numbers that have a sign.
pub mod Samples
