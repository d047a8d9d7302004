pub mod Base
pub mod Reading
pub mod Programs0
pub mod Programs1
