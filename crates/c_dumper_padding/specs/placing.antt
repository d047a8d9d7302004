-- Steps: the measuring of a body, step by step.
pub mod Steps
