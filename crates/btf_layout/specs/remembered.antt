-- Words: what is remembered of alignments, as words of the work.
pub mod Words
