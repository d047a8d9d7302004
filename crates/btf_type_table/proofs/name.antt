-- Laws of names that are written.
pub mod Within
