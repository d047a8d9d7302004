-- What each call for C comes to.
pub mod Exports
pub mod Field
pub mod Ceilings
pub mod Declarations
pub mod Cuts
pub mod Causes
