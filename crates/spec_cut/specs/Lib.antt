pub mod reopened
pub mod section
