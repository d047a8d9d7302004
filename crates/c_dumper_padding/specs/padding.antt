-- Asking: the pads before a member, with the alignment that is remembered.
pub mod Asking
