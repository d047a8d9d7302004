pub mod calls
pub mod emission
pub mod origin_calls
pub mod session
pub mod metered
