pub mod filled_work
pub mod hash_table
pub mod holders
pub mod keys
pub mod name_classes
pub mod numbers
pub mod suffixes
