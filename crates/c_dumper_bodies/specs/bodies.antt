-- Pieces: what one turn of a loop of the rules prints, and what it leaves.
pub mod Pieces
