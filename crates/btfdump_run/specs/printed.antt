-- What the program prints.
pub mod Printed
