pub mod Refusals
pub mod Calls
pub mod Table
pub mod Lists
