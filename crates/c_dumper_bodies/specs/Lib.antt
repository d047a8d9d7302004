pub mod bodies
pub mod chain
pub mod enumerators
pub mod enums
