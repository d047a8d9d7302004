pub mod Based
pub mod Before
pub mod Found
