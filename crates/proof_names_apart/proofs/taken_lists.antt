pub mod Chains
pub mod Takers
