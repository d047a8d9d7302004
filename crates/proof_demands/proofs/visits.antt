-- Opened: names and memory side by side. OpenedWork: in the work that opening leaves. Record, Calls: in the record of the calls.
pub mod Opened
pub mod OpenedWork
pub mod Record
pub mod Calls
