pub mod Frame
pub mod Laws
pub mod Lists
pub mod Walk
