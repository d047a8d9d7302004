-- Laws of qualifiers, bases and entries.
pub mod BaseLaws
pub mod ItemLaws
