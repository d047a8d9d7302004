-- Laws of the reader.
pub mod ReadLaws
