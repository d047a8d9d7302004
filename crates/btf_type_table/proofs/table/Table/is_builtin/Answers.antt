use Rattle.std.proofs.Common.{rules, tests, ◌∙◌, ap, eqb, arith}
use Rattle.std.specs.Cmp.Lexicographic.{pointwise}
use Rattle.std.proofs.lemmas.Iterator.Search.{any_from_yields_List}
use Rattle.spec_bytes.specs.text.Text.{ascii}
use Rattle.spec_c_dumper.specs.rules.Names.{builtin, contains}
use Rattle.spec_type_table.proofs.NameLaws as names
use Rattle.btf_type_table.proofs.table.Table.is_builtin.Goals as goal

pub returns : goal.returns
unfolding builtin
returns c =
    any_from_yields_List (λ p. pointwise eqb p (ascii "__builtin_va_list")) _ _ _ c.any.ensures.ran
    (names.yields_windows 17 (omega arith) c.get_btf_str.result.now c.windows.ensures.size c.windows.ensures.rest)
    (λ x b q k. search (rules, tests))
    ∙ names.any_window (ascii "__builtin_va_list") (omega arith) c.get_btf_str.result.now
    ∙ ap (contains (ascii "__builtin_va_list")) c.get_btf_str.ensures
