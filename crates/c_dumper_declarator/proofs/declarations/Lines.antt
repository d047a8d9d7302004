-- The text of a body's members is the text of its lines: what is laid out is what is printed. Assumes nothing.
use Prim.Native.Nat.{ℕ, suc, ◌+◌}
use mathlib.Core.Path.{◌≡◌, refl, ap, ap₂, ◌∙◌, sym}
use mathlib.Core.Bool.{Bool}
use mathlib.Core.List.{List, [], ◌∷◌, ◌++◌, append_assoc}
use native.Mathlib.Omega.{arith}
use borrow.Author.Tests.{ne_eqb}
use Rattle.spec_bytes.specs.text.Text.{ascii, pfx}
use Rattle.spec_c_dumper.specs.rules.Writer.{Ask, got, Writer, ◌⨾◌, put, given}
use Rattle.spec_c_dumper.specs.rules.Types.{Name, Member, Btf}
use Rattle.spec_c_dumper.specs.rules.Names.{Naming}
use Rattle.spec_c_dumper.specs.rules.Layout.{Pad, bit_padding, end_of}
use Rattle.spec_c_dumper.specs.rules.Decl.{pads, own_line, tail_text, bit_size_of, emit_decl_tags, emit_members}
use Rattle.spec_c_dumper.specs.rules.SystemV.{Line, field, pad_lines, body_lines, write_lines}
use Rattle.spec_c_dumper.proofs.rules.Writing.{put_put}
use Rattle.spec_c_dumper.proofs.rules.Asking.{then_got}
use Rattle.c_dumper_declarator.proofs.declarations.Sequences.{then_assoc, nothing_then, then_nothing}

module _ {U : Type 0} where
  given_got : {A : Type 0} (x : Ask A) (k : A → Writer U) (a : A) → x ≡ got a → given x k ≡ k a
  unfolding given
  given_got x k a e = ap (λ y. given y k) e

  module _ (B : Btf) (decl : ℕ → Name → ℕ → Writer U) (id lvl : ℕ) where
    one_pad : (p : Pad) (ps : List Pad) → pads lvl (p ∷ []) ++ pads lvl ps ≡ pads lvl (p ∷ ps)
    unfolding pads
    one_pad p ps = simp append_assoc

    pads_written : (ps : List Pad) (i : ℕ) (ls : List Line) → write_lines B decl id lvl i (pad_lines ps ls) ≡ put (pads lvl ps) ⨾ write_lines B decl id lvl i ls
    unfolding pad_lines pads write_lines
    pads_written [] i ls = sym (nothing_then _)
    pads_written (p ∷ ps) i ls =
        ap (◌⨾◌ (put (pads lvl (p ∷ [])))) (pads_written ps i ls)
        ∙ sym (then_assoc _ _ _)
        ∙ ap (λ (v : Writer U). v ⨾ write_lines B decl id lvl i ls) ((λ j u. put_put (pads lvl (p ∷ [])) (pads lvl ps) u j) ∙ ap put (one_pad p ps))

    pads_only : (ps : List Pad) (i : ℕ) → write_lines B decl id lvl i (pad_lines ps []) ≡ put (pads lvl ps)
    unfolding write_lines
    pads_only ps i = pads_written ps i [] ∙ then_nothing (put (pads lvl ps))

    no_own_line : (i : ℕ) (ps : List Pad) → (i ≡ 0 → ⊥) → own_line i ps ≡ []
    unfolding own_line
    no_own_line i [] n = refl
    no_own_line i (p ∷ ps) n = rw (ne_eqb i 0 n, own_line)

    module _ (N : Naming U) (tail : ℕ → List Pad) (packed : Bool) where
      -- a body without members: its pads, and a newline of its own
      pub no_member_written : (i offset : ℕ) (ls : List Line) → body_lines B tail packed offset [] ≡ got ls
          → emit_members N B decl id tail lvl packed i offset [] ≡ write_lines B decl id lvl i ls ⨾ put (own_line i (tail offset))
      unfolding body_lines emit_members tail_text
      no_member_written i offset ls e =
          let q : pad_lines (tail offset) [] ≡ ls = cc in
          (λ j u. sym (put_put (pads lvl (tail offset)) (own_line i (tail offset)) u) j)
          ∙ ap (λ (v : Writer U). v ⨾ put (own_line i (tail offset))) (sym (pads_only (tail offset) i) ∙ ap (write_lines B decl id lvl i) q)

      -- a member: its pads, its line, and those after it
      more_written : (i offset : ℕ) (m : Member) (ms : List Member) (ls : List Line) → body_lines B tail packed offset (m ∷ ms) ≡ got ls
          → ((end : ℕ) (left : List Line) → body_lines B tail packed end ms ≡ got left → emit_members N B decl id tail lvl packed (i + 1) end ms ≡ write_lines B decl id lvl (suc i) left)
          → emit_members N B decl id tail lvl packed i offset (m ∷ ms) ≡ write_lines B decl id lvl i ls
      unfolding body_lines emit_members write_lines
      more_written i offset m ms ls e rec =
          let p = then_got _ _ _ e in
          let q = then_got _ _ _ p.rest in
          let r = then_got _ _ _ q.rest in
          let w : pad_lines p.value (field m ∷ r.value) ≡ ls = let k = r.rest in cc in
          ap₂ (λ (v x : Writer U). v ⨾ put (ascii "\n") ⨾ put (pfx lvl) ⨾ decl m.type_id m.name lvl ⨾ put (bit_size_of m) ⨾ x)
          (given_got (bit_padding B offset m packed) (λ ps. put (pads lvl ps)) p.value p.first)
          (given_got (end_of B m) (λ end. emit_decl_tags B id i ⨾ put (ascii ";") ⨾ emit_members N B decl id tail lvl packed (i + 1) end ms) q.value q.first
          ∙ ap (λ (v : Writer U). emit_decl_tags B id i ⨾ put (ascii ";") ⨾ v) (rec q.value r.value r.first))
          ∙ sym (pads_written p.value i (field m ∷ r.value))
          ∙ ap (write_lines B decl id lvl i) w

      later_written : (i offset : ℕ) (ms : List Member) (ls : List Line) → body_lines B tail packed offset ms ≡ got ls
          → emit_members N B decl id tail lvl packed (i + 1) offset ms ≡ write_lines B decl id lvl (suc i) ls
      later_written i offset [] ls e =
          let n : i + 1 ≡ 0 → ⊥ = omega arith in
          let s : i + 1 ≡ suc i = omega arith in
          no_member_written (i + 1) offset ls e
          ∙ ap (λ (a : List ℕ). write_lines B decl id lvl (i + 1) ls ⨾ put a) (no_own_line (i + 1) (tail offset) n)
          ∙ then_nothing _
          ∙ ap (λ (k : ℕ). write_lines B decl id lvl k ls) s
      later_written i offset (m ∷ ms) ls e =
          let s : i + 1 ≡ suc i = omega arith in
          more_written (i + 1) offset m ms ls e
          (λ end left f. later_written (i + 1) end ms left f)
          ∙ ap (λ (k : ℕ). write_lines B decl id lvl k ls) s

      -- a body with members: emit_members writes the lines, no more and no less
      pub lines_written : (offset : ℕ) (m : Member) (ms : List Member) (ls : List Line) → body_lines B tail packed offset (m ∷ ms) ≡ got ls
          → emit_members N B decl id tail lvl packed 0 offset (m ∷ ms) ≡ write_lines B decl id lvl 0 ls
      lines_written offset m ms ls e = more_written 0 offset m ms ls e (λ end left f. later_written 0 end ms left f)
