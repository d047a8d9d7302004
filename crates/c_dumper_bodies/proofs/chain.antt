-- Linked: kinds, and the entry of a type by its kind. Paths: the walks of a chain, its top, its qualifiers. Only: below its base a
-- chain has only entries that lead on. Downwards: the first entry from the top down that is no qualifier.
pub mod Linked
pub mod Paths
pub mod Only
pub mod Downwards
