pub mod Same
pub mod Classes
pub mod Table
pub mod Claims
