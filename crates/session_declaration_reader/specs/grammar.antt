pub mod Chain
pub mod Grammar
pub mod Encoding
pub mod Emission
