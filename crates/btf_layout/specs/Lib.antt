pub mod asked
pub mod remembered
pub mod size
