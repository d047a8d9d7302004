pub mod name_counts
pub mod names_apart
pub mod no_collision
pub mod none_passed
pub mod passed_numbers
pub mod same_text
pub mod taken_lists
