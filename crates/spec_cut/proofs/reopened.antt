-- Followed: what causes 6, 7 and 8 see of a section, in the terms of its types. Renamed: the renamed types. Causes: none of the three holds of them.
pub mod Followed
pub mod Renamed
pub mod Causes
pub mod Accepts
pub mod Strings
pub mod Reopened
pub mod Work
