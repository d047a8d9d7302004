pub mod WordLaws
pub mod BodyLaws
