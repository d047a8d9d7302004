-- Types: the types and enumerators of a section. Table: the index of its records. Followed: the ids that a type follows. Described: the
-- type table that a section describes. Samples: such tables, computed. Causes: the nine causes and the number. Opened: the outcome of
-- opening.
pub mod Types
pub mod Table
pub mod Followed
pub mod Described
pub mod Samples
pub mod Causes
pub mod Opened
