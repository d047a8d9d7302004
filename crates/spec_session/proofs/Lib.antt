pub mod calls
pub mod origin_calls
pub mod origins_after
pub mod emission
pub mod metered
