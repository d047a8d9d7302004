-- Asked: what a body asks, over the words of the memory.
pub mod Asked
