use Rattle.session_declaration_reader.proofs.tokens.count_value.Goals.{in_default, in_default-2}
use Rattle.std.specs.Char.{is_ascii_digit}
use Rattle.std.proofs.Common.{rules}
use Rattle.std.proofs.lemmas.Iterator.{YieldsList-from_slice}
use Rattle.std.proofs.lemmas.Iterator.Search.{all_from_yields_List}
use mathlib.Core.Path.{◌≡◌, sym, ◌∙◌}
use Rattle.std.specs.List.{list_all}
use native.Mathlib.Omega.{arith}
use Rattle.session_declaration_reader.proofs.tokens.Bytes as bytes
use Rattle.session_declaration_reader.proofs.tokens.count_value.Goals as goal

pub returns-in-empty : goal.returns-in-empty
returns-in-empty c = bytes.count_empty _ (omega arith)

pub returns-in-empty-2 : goal.returns-in-empty-2
returns-in-empty-2 c = bytes.count_zeros _ (omega arith, λ e. absurd (omega (arith, e)))

pub returns-then-not-all : goal.returns-then-not-all
returns-then-not-all c =
    let a : c.all.result ≡ list_all is_ascii_digit c.args.run.now = all_from_yields_List is_ascii_digit _ _ _ c.all.ensures.ran (YieldsList-from_slice c.args.run.now c.iter.ensures.rest) (λ x b q k. search rules) in
    bytes.count_other _ _ a c.if-not-all.true

pub returns-in_err-ok : goal.returns-in_err-ok
returns-in_err-ok c =
    let a : c.all.result ≡ list_all is_ascii_digit c.args.run.now = all_from_yields_List is_ascii_digit _ _ _ c.all.ensures.ran (YieldsList-from_slice c.args.run.now c.iter.ensures.rest) (λ x b q k. search rules) in
    absurd (bytes.is_text _ _ c.from_utf8.result _ _ _ (bytes.count_text c.args.run.now c.all.result a c.if-not-all.false) c.from_utf8.ensures.cases (sym c.in_err-ok.was ∙ c.ok.ensures.value))

pub returns : goal.returns
returns c =
    let a : c.all.result ≡ list_all is_ascii_digit c.args.run.now = all_from_yields_List is_ascii_digit _ _ _ c.all.ensures.ran (YieldsList-from_slice c.args.run.now c.iter.ensures.rest) (λ x b q k. search rules) in
    let t : c.in_ok-ok.field-0.now ≡ c.args.run.now = bytes.text_is c.args.run.now _ c.from_utf8.result c.in_ok-ok.field-0 _ _ (sym c.in_ok-ok.was ∙ c.ok.ensures.value) c.from_utf8.ensures.cases in
    let p = rw t at c.parse.ensures.value.0 in
    c.ok-2.ensures.value ∙ elim c.if-run-lt2.branch [
      | in_default w ↦ bytes.count_parsed c.args.run.now c.all.result a c.if-not-all.false (λ e. omega (arith, e, w.in_default)) (λ e. omega (arith, e, w.in_default)) _ c.parse.result p
      | in_default-2 w ↦ bytes.count_parsed c.args.run.now c.all.result a c.if-not-all.false (λ e. omega (arith, e, w.in_default)) (λ e. absurd (omega (arith, e, w.in_default))) _ c.parse.result p
    ]
