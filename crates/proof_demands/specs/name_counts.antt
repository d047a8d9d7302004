pub mod Passed
pub mod Indexed
pub mod Alike
pub mod Printed
