pub mod options
