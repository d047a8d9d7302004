-- Accessors: the table. First: find_map over a range. BadIds: cause 6 in the table's own terms. Any, Twice, Zeros: what causes 7 and 8 need too.
pub mod Any
pub mod First
pub mod Accessors
pub mod Twice
pub mod Zeros
pub mod BadIds
pub mod Tables
mod Examples
