-- What the public function promises: Track, Prototypes. What its walks keep: Cells.
pub mod Track
pub mod Prototypes
pub mod Cells
