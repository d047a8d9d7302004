pub mod filled_work
pub mod name_classes
pub mod Ranges
