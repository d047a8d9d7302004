pub mod Table
pub mod Dumps
pub mod Lists
pub mod Claims
