pub mod arrival
pub mod numbered
pub mod record_bytes
pub mod record_words
