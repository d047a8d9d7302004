-- Claims: the causes and the number, for a reader. ReadBack: the laws that crates above read the work by. All else leads there: First and
-- Opens have a law for each return; Sections, Index and Sums say that what the pass finds is the section's; Order is the first cause that holds.
pub mod Claims
pub mod ReadBack
pub mod First
pub mod Sections
pub mod Order
pub mod Opens
pub mod Index
pub mod Sums
mod Examples
pub mod Samples
