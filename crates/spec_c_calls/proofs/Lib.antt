pub mod Laws
pub mod Claims
pub mod Lists
pub mod FieldLaws
pub mod CutLaws
pub mod ReadingBack
