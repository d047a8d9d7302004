pub mod CauseLaws
pub mod CeilingLaws
pub mod NumberLaws
