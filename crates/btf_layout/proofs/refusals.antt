-- Questions: what refuses a question. Emitters: what refuses a line. InWork: both over the work, and what a line leaves alone.
pub mod Questions
pub mod Emitters
pub mod InWork
