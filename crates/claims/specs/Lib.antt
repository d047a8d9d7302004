-- Claims: all that is claimed; read it first. Demand1, Demand2, Demand3, Demands and the requests: a file for each. Calls: what a caller
-- has of a call, and lists of calls. Ours: the calls of this project. Carried: calls under a ceiling, or
-- lent a list.
pub mod Claims
pub mod Calls
pub mod Ours
pub mod Carried
pub mod Demand1
pub mod Demand2
pub mod Demand3
pub mod Demands
pub mod Request01_list_of_ids
pub mod Request02_big_endian
pub mod Request03_placing
pub mod Request04_fixed_words
pub mod Request05_declared_first
pub mod Request06_strong_arrays
pub mod Request07_alignment_once
pub mod Request08_names_apart
pub mod Request09_declaration_read_back
pub mod Request10_two_headers
pub mod Request11_field_at_bit
pub mod Request12_line_origins
pub mod Request13_ceiling
pub mod Request14_cut
pub mod Program
