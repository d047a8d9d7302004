-- Values: the lines of an enum's values, and the loop over them. Definitions: heads, ends and whole definitions.
pub mod Values
pub mod Definitions
