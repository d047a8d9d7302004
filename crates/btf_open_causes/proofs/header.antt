-- Headers: causes 3 and 4. Settings: btf_of.
pub mod Headers
mod Settings
