-- Work: the memory in the work: when it is right, and of which tables it stays so.
pub mod Work
