-- Documentation: the page. Reading, Section: how bytes are read, and causes 3 to 5. Places, Fields: the same by places, as code reads, and
-- field by field.
pub mod Documentation
pub mod Reading
pub mod Places
pub mod Section
pub mod Fields
