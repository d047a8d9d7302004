-- Tracks: the test means what it says, of any track. Cells: the code's walks. Held: cause 7 in the table's own terms.
pub mod Tracks
pub mod Cells
pub mod Held
mod Examples
