pub mod alignment_memory
pub mod counted
pub mod demands
pub mod name_counts
