pub mod Fair
pub mod Laws
pub mod Claims
pub mod Table
pub mod Tails
pub mod Singles
pub mod Lists
