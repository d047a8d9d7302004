-- Right: the plain way's answers. Counted: visits. Fair: what a body asks. Tables: a memory that is a function. Writers, Session: texts, and sessions. Keeps: what no emitter changes.
pub mod Right
pub mod Counted
pub mod Fair
pub mod Tables
pub mod Writers
pub mod Session
pub mod Keeps
pub mod Samples
