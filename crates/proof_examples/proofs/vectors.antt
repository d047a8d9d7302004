pub mod Read0
pub mod Read1
pub mod Programs0
pub mod Programs1
