pub mod Frame
pub mod Laws
pub mod Lawful
pub mod Emptied
