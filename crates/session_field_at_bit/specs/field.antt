-- Which field covers a bit of a composite (the walk: Path of `session_field_at_bit::step`). Calls: what the call comes to. Leads: what a
-- path says, in
-- the words of the request. Code: what the code's answers say. Samples: a small table.
pub mod Code
pub mod Calls
pub mod PathFrom
pub mod Samples
