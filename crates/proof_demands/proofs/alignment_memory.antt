-- Work: naming and questions keep a right memory. Lines: a line by the remembering way says what the plain one says.
pub mod Work
pub mod Lines
