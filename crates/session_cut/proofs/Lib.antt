pub mod items
pub mod numbering
pub mod stored
pub mod written
