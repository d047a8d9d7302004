pub mod dump_type
pub mod emission
pub mod entries
