-- Laws of the grammar.
pub mod ParseLaws
