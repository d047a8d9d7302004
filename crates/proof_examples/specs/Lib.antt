pub mod answered
pub mod deep
pub mod vectors
