-- What each return of emit_bit_padding comes to. Assumes nothing.
use Prim.Native.Nat.{ℕ, ◌-◌, ◌<◌, ◌≤◌}
use mathlib.Core.Path.{◌≡◌, refl, ap, ap₂, ◌∙◌, sym}
use mathlib.Core.Bool.{Bool, true, false}
use mathlib.Core.List.{List, []}
use borrow.Author.Tests.{le-leb, lt-leb}
use Rattle.spec_bytes.specs.text.Text.{whole, cut}
use Rattle.spec_bytes.specs.text.Placed.{Placed, put_out, put_text}
use Rattle.spec_bytes.proofs.text.TextLaws.{put_past, put_ended, put_cut}
use Rattle.spec_c_dumper.specs.rules.Writer.{put}
use Rattle.spec_c_dumper.specs.rules.Types.{Member, Btf as Rules}
use Rattle.spec_c_dumper.specs.rules.Layout.{Pad, pads_before}
use Rattle.spec_c_dumper.specs.rules.Decl.{pads}
use Rattle.spec_c_dumper.specs.rules.Place.{out_of, put_said}
use Rattle.spec_c_dumper.proofs.rules.Writing.{put_only, put_nothing}
use Rattle.spec_type_table.specs.Cells.{get_field}
use Rattle.std.specs.Prelude.{Result, Ok, Err, IsErrAnd}
use Rattle.spec_bytes.specs.declared.refusal.Refusal.{Refusal}
use Rattle.spec_bytes.specs.Refusals.{refusal_number}
use Rattle.spec_c_dumper.specs.alignment_once.Once.{Keep, Once, found, Asking, once_then}
use Rattle.spec_c_dumper.specs.alignment_once.Steps.{gap_align_once, padding_once}
use Rattle.btf_layout.specs.remembered.Words.{work_keep, forget}
use Rattle.btf_layout.proofs.remembered.Turns.{next, then_next}
use Rattle.btf_layout.specs.asked.Asked.{ask_in, gap_in, work_asks}
use Rattle.btf_layout.proofs.asked.Stays.{Steady, steady_padding}
use Rattle.btf_layout.proofs.asked.Given.{given_found, given_refused}
use Rattle.c_dumper_padding.specs.padding.Asking.{pad_said}

abbrev Answer : Type 0
Answer = Result ℕ Refusal

module _ (types : ℕ) (B : Rules) (offset : ℕ) (m : Member) (packed : Bool) (lvl : ℕ) (t : List ℕ) (at : ℕ) (w : List ℕ) where
  abbrev K : Keep (List ℕ)
  K = work_keep types B

  -- the visits so far change nothing
  abbrev ask : List ℕ → Once (List ℕ) (List Pad)
  ask u = (work_asks types B).padding offset m packed u

  asked : forget (padding_once K B offset m packed w 0) ≡ forget (ask w)
  asked = sym (steady_padding K B offset m packed w (get_field w 0 2))

  no_gap : m.bit_offset ≤ offset → found [] w 0 ≡ forget (padding_once K B offset m packed w 0)
  unfolding padding_once forget
  no_gap h = rw (le-leb m.bit_offset offset h, padding_once)

  pub emit_none : m.bit_offset ≤ offset → out_of (Ok at) t w ≡ put_said t (Ok at) (pad_said types B offset m packed lvl) w
  unfolding pad_said pads
  emit_none h = given_found t at ask (λ ps. put (pads lvl ps)) w w (Ok at) t [] w (no_gap h ∙ asked) (put_nothing _ t (Ok at) w)

  module _ (h : offset < m.bit_offset) (y : Answer) (u : List ℕ) (ey : ask_in y u ≡ gap_in types B packed m.type_id w) where
    abbrev pads_on : ℕ → Asking (List ℕ) (List Pad)
    pads_on a m' k = found (pads_before B.placing B.ptr_sz offset m.bit_size (m.bit_offset - offset) a) m' k

    steady_on : (a : ℕ) → Steady (pads_on a)
    unfolding forget
    steady_on a m' k = refl

    gap : next pads_on (ask_in y u) ≡ forget (ask w)
    unfolding padding_once gap_in
    gap =
        ap (next pads_on) ey ∙ sym (then_next pads_on steady_on (gap_align_once K B packed m.type_id w 0))
        ∙ ap (λ (q : Bool). forget {M = List ℕ} {A = List Pad} (elim q as (λ (z : Bool). Once (List ℕ) (List Pad)) [ true ↦ found [] w 0 | false ↦ once_then (gap_align_once K B packed m.type_id w 0) pads_on ])) (sym (lt-leb m.bit_offset offset h))
        ∙ asked

  module _ (h : offset < m.bit_offset) (u : List ℕ) where
    pub emit_gap : (pl : Bool) (p a : ℕ) (r : Placed) (t' : List ℕ) → pl ≡ B.placing → p ≡ B.ptr_sz → ask_in (Ok a) u ≡ gap_in types B packed m.type_id w
        → put_out r t' ≡ put_text t (Ok at) (whole (pads lvl (pads_before pl p offset m.bit_size (m.bit_offset - offset) a)))
        → out_of r t' u ≡ put_said t (Ok at) (pad_said types B offset m packed lvl) w
    unfolding pad_said ask_in next forget
    emit_gap pl p a r t' el ep g e =
        given_found t at ask (λ ps. put (pads lvl ps)) w u r t' _ u (gap h (Ok a) u g)
        (put_only _ t (Ok at) _ u r t' (e ∙ ap₂ (λ (l : Bool) (n : ℕ). put_text t (Ok at) (whole (pads lvl (pads_before l n offset m.bit_size (m.bit_offset - offset) a)))) el ep))

    pub emit_refused : (c : Refusal) (r : Placed) → ask_in {A = ℕ} (Err c) u ≡ gap_in types B packed m.type_id w → IsErrAnd r (λ e. e ≡ c) → out_of r t u ≡ put_said t (Ok at) (pad_said types B offset m packed lvl) w
    unfolding pad_said ask_in next
    emit_refused c r g i =
        given_refused t at ask (λ ps. put (pads lvl ps)) w u r t (refusal_number c) (gap h (Err c) u g)
        (put_ended t r c (cut [] (refusal_number c)) i ∙ sym (put_past t c (cut [] (refusal_number c))) ∙ put_cut t at c)
