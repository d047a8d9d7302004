pub mod Sizes
pub mod Lines
pub mod Steps
pub mod Sessions
pub mod Numbers
pub mod Types
pub mod Names
pub mod Tables
pub mod Claims
pub mod Written
pub mod Area
pub mod Test
mod Examples
