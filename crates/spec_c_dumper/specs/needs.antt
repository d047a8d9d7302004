pub mod Needs
pub mod Demand
pub mod Proto
pub mod Lists
pub mod Session
pub mod Samples
pub mod Fit
pub mod Bodies
