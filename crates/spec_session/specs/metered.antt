pub mod Lists
pub mod Within
pub mod Metered
pub mod Fits
