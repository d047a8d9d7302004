pub mod calls_for_c
pub mod ceilings
pub mod described
pub mod line_origins
pub mod list_fits
pub mod mixed
pub mod program
