-- Laws of the Rust's ledger, of holders and their classes, of what a count and a version change; the theorem, and what follows.
pub mod Holders
pub mod Keys
pub mod Stores
pub mod Related
pub mod Lists
pub mod Table
pub mod Now
pub mod Classed
pub mod Others
pub mod Claims
pub mod Examples
