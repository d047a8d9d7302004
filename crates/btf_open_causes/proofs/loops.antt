-- Graphs: the test means what it says, of any graph. Walks: the code's walk. TypeLoops: cause 8 in the table's own terms.
pub mod Graphs
pub mod Walks
pub mod TypeLoops
mod Examples
