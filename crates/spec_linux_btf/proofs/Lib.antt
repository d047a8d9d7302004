-- Claims: the theorems, stated over specs/ alone. All else leads to them: words, entries, types and areas both ways (Words, Entries, Types, Area),
-- the reader by places (ByPlaces, Shifted), sections (Section, SectionFields, SectionTests, Written), strings, and the tables of the page. Examples, Compiled: by computation.
pub mod Claims
pub mod Words
pub mod Entries
pub mod Types
pub mod Area
pub mod ByPlaces
pub mod PlacesFrom
pub mod Section
pub mod SectionFields
pub mod SectionTests
pub mod Fields
pub mod Written
pub mod Strings
pub mod Tables
mod Examples
mod Compiled
