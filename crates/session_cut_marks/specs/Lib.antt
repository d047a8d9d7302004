pub mod interned
pub mod kept
pub mod marks
pub mod mentioned
pub mod roles
pub mod tags
