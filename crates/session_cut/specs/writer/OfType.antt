-- What is said of a kept type and of a word of it, at the values of the code.
use Rattle.std.specs.Prelude.{ℕ, ◌+◌}
use Rattle.session_cut_marks.specs.roles.Words.{words_in, word_of}
use Rattle.session_cut_marks.specs.mentioned.Names.{new_sizes, base_of}
use Rattle.session_cut_marks.specs.kept.AtKept.{at_kept}
use Rattle.session_cut.specs.declared.writer.source.KeptType.{KeptType}
use Rattle.session_cut.specs.declared.writer.source.Mention.{Mention}

abbrev pub words_of : KeptType → ℕ
words_of t = words_in t.source.now.kept.index.table.head t.source.now.kept.index.table.section.now t.e.word

-- the length of the strings before word j
abbrev pub length_before : KeptType → ℕ → ℕ
length_before t j = at_kept base_of t.source.now.kept t.x + at_kept new_sizes t.source.now.kept t.x t.e.word j

-- the word as it stands in the section
abbrev pub word_in : Mention → ℕ
word_in m = word_of m.of.source.now.kept.index.table.head m.of.source.now.kept.index.table.section.now m.of.e.word m.j
