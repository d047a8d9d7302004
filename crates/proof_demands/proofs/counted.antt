-- Questions: two memories that recall the same. Emitters, Lines: a line over the work and over the definition's memory. Request, Session: requests and calls.
-- Claims: the visits in the record are those of the definition.
pub mod Questions
pub mod Emitters
pub mod Lines
pub mod Request
pub mod Session
pub mod Claims
