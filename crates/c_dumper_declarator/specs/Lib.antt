pub mod declarations
