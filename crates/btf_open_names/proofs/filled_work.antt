-- Filled: a law for each return of `fill`. Work, Tags, Enumerators, Zeros and Frame are about the words of the work, Bytes and Holders about suffixes.
pub mod Filled
pub mod Work
pub mod Tags
pub mod Enumerators
pub mod Zeros
pub mod Bytes
pub mod Holders
pub mod Frame
