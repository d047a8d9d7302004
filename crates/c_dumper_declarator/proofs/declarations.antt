-- Sequences: one writer after another. Turns: a loop of the rules is its first turn and then the rest. Kept: what no version of a
-- name changes; a loop's rest. Keeping: the emitters
-- keep it. DeclLaws, EntryLaws, MemberLaws: what each return of the functions that call each other comes to.
pub mod Sequences
pub mod Turns
pub mod Kept
pub mod Keeping
pub mod DeclLaws
pub mod EntryLaws
pub mod MemberLaws
pub mod Lines
