pub mod room
