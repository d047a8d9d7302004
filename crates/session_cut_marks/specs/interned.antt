-- Slots: where a name stands in the table. Filled: the table after the words of the types that are kept. Filler: both at a value of
-- the code. Right: what such a table says is so.
pub mod Slots
pub mod Filled
pub mod Filler
pub mod Right
