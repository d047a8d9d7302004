pub mod Kept
pub mod Renumbered
pub mod Strings
pub mod Section
pub mod Stands
pub mod Table
pub mod Test
