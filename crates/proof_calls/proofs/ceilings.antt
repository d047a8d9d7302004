pub mod Plain
pub mod Over
pub mod Shut
pub mod Closed
pub mod Count
