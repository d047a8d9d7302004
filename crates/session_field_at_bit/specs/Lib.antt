pub mod field
pub mod step
