pub mod printed
