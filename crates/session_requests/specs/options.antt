pub mod Counted
pub mod Lists
pub mod Options
pub mod Requests
