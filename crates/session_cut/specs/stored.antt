-- The names that are met, in the order of mention, and the list that they are stored in.
pub mod Mentioned
