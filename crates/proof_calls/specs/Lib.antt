pub mod calls_for_c
pub mod ceilings
pub mod line_origins
pub mod mixed
pub mod program
