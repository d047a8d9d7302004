pub mod Table
pub mod Claims
pub mod Representation
pub mod Session
pub mod Demands
