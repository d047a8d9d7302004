-- Widths: the widths of pads. Laws: the code in the old mode. Placing: in placing mode.
pub mod Widths
pub mod Laws
pub mod Placing
