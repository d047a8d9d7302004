-- Seen: a table as causes 6, 7 and 8 see it. Reopened: the claim on a section and its cut, of the calls of two sessions.
pub mod Seen
pub mod Reopened
