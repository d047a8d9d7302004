-- A law for each return of the pass.
pub mod Pass
