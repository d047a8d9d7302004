-- What the public function promises: Graph, Loops. What its walk keeps: Walk.
pub mod Graph
pub mod Loops
pub mod Walk
