-- Left: what a successful opening leaves in the work. Takers: the lists of taken numbers.
pub mod Left
pub mod Takers
