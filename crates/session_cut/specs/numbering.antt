-- What the marks keep while they are closed over followed ids.
pub mod Marked
