-- What a pass over the records finds.
pub mod Pass
