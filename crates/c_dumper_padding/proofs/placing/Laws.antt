-- What each return of the code comes to. Assumes nothing.
use Prim.Native.Nat.{ℕ}
use mathlib.Core.Path.{◌≡◌, ap, ◌∙◌, sym}
use mathlib.Core.Bool.{Bool, true, false}
use mathlib.Core.List.{List}
use Rattle.std.specs.Prelude.{Result, Ok, Err}
use Rattle.spec_bytes.specs.declared.refusal.Refusal.{Refusal}
use Rattle.spec_c_dumper.specs.rules.Writer.{Ask, ask_then}
use Rattle.spec_c_dumper.specs.rules.Types.{Member, Btf as Rules}
use Rattle.spec_c_dumper.specs.rules.Placing.{Extent, extent_of, no_extent}
use Rattle.spec_type_table.specs.declared.types.TypeTable.{TypeTable}
use Rattle.spec_type_table.specs.Table.{btf_of}
use Rattle.btf_layout.specs.size.Answers.{ask_of}
use Rattle.c_dumper_padding.specs.declared.extents.Extent.{Extent as Code}
use Rattle.spec_c_dumper.specs.alignment_once.Once.{Keep, Asking, once_then}
use Rattle.spec_c_dumper.specs.alignment_once.Steps.{plainly, packed_once, union_align_once, judged as judged_by, measured_once, body_once}
use Rattle.btf_layout.specs.remembered.Words.{work_keep, forget}
use Rattle.btf_layout.proofs.remembered.Turns.{next, then_next}
use Rattle.btf_layout.specs.asked.Asked.{ask_in, union_in, packed_at}
use Rattle.btf_layout.proofs.asked.Stays.{steady_plainly, steady_judged}
use Rattle.btf_layout.proofs.asked.Laws.{plain_packed}
use Rattle.c_dumper_padding.specs.extents.Steps.{extent_is, extents_of, judged}
use Rattle.c_dumper_padding.specs.placing.Steps.{by_in, measured_in, body_in}

abbrev Extents : Type 0
Extents = Result Code Refusal

abbrev Answer : Type 0
Answer = Result ℕ Refusal

abbrev Packed : Type 0
Packed = Result Bool Refusal

-- ---- measured_by, measured, body_packed
module _ (types : ℕ) (B : Rules) (is : Bool) (id sz : ℕ) (ms : List Member) (w : List ℕ) where
  abbrev K : Keep (List ℕ)
  K = work_keep types B

  abbrev last : ℕ → Bool → Asking (List ℕ) Bool
  last a p = plainly (judged_by B is sz ms a p)

  module _ (a : ℕ) (q : Packed) (u : List ℕ) (eq : ask_in q u ≡ packed_at types B is id sz ms w) where
    by_asked : by_in types B is id sz ms a w ≡ next (last a) (ask_in q u)
    unfolding by_in packed_at
    by_asked = then_next (last a) (λ p. steady_plainly (judged_by B is sz ms a p)) (packed_once K B is id sz ms w 0) ∙ ap (next (last a)) (sym eq)

    pub by_refused : (c : Refusal) → q ≡ Err c → ask_in {A = Bool} (Err c) u ≡ by_in types B is id sz ms a w
    unfolding ask_in next
    by_refused c e = sym (by_asked ∙ ap (λ (y : Packed). next (last a) (ask_in y u)) e)

    module _ (p : Bool) (e : q ≡ Ok p) (C : Rules) (e_c : C ≡ B) (in_struct : Bool) (e_s : in_struct ≡ is) (r : Extents) (er : extents_of r ≡ extent_of C in_struct p no_extent ms) where
      by_packed : by_in types B is id sz ms a w ≡ forget (plainly (ask_then (extents_of r) (judged is sz a p)) u 0)
      unfolding ask_in next judged_by judged
      by_packed =
          by_asked ∙ ap (λ (y : Packed). next (last a) (ask_in y u)) e
          ∙ ap (λ (y : Ask Extent). forget (plainly {M = List ℕ} (ask_then y (judged is sz a p)) u 0)) (sym (er ∙ λ i. extent_of (e_c i) (e_s i) p no_extent ms))

      pub by_endless : (c : Refusal) → r ≡ Err c → ask_in {A = Bool} (Err c) u ≡ by_in types B is id sz ms a w
      unfolding ask_then ask_in extents_of plainly forget
      by_endless c f = sym (by_packed ∙ ap (λ (y : Extents). forget (plainly {M = List ℕ} (ask_then (extents_of y) (judged is sz a p)) u 0)) f)

      pub by_judged : (x : Code) → r ≡ Ok x → (z : Packed) → ask_of z ≡ judged in_struct sz a p (extent_is x) → ask_in z u ≡ by_in types B is id sz ms a w
      unfolding ask_then extents_of
      by_judged x f z ez =
          sym (by_packed ∙ ap (λ (y : Extents). forget (plainly {M = List ℕ} (ask_then (extents_of y) (judged is sz a p)) u 0)) f ∙ ap (λ (y : Ask Bool). forget (plainly {M = List ℕ} y u 0)) (sym (ez ∙ ap (λ (k : Bool). judged k sz a p (extent_is x)) e_s)) ∙ plain_packed u z)

  abbrev rest : ℕ → Asking (List ℕ) Bool
  rest a m k = once_then (packed_once K B is id sz ms m k) (last a)

  module _ (q : Answer) (u : List ℕ) (eq : ask_in q u ≡ union_in types B is id w) where
    measured_is : measured_in types B is id sz ms w ≡ next rest (ask_in q u)
    unfolding measured_in measured_once union_in
    measured_is = then_next rest (λ a. steady_judged K B is id sz ms a) (union_align_once K B is id w 0) ∙ ap (next rest) (sym eq)

    pub measured_refused : (c : Refusal) → q ≡ Err c → ask_in {A = Bool} (Err c) u ≡ measured_in types B is id sz ms w
    unfolding ask_in next
    measured_refused c e = sym (measured_is ∙ ap (λ (y : Answer). next rest (ask_in y u)) e)

    pub measured_got : (a : ℕ) → q ≡ Ok a → (C : Rules) → C ≡ B → (z : Packed) (u' : List ℕ) → ask_in z u' ≡ by_in types C is id sz ms a u → ask_in z u' ≡ measured_in types B is id sz ms w
    unfolding ask_in next by_in
    measured_got a e C e_c z u' ez = ez ∙ ap (λ (D : Rules). by_in types D is id sz ms a u) e_c ∙ sym (measured_is ∙ ap (λ (y : Answer). next rest (ask_in y u)) e)

module _ (b : TypeTable) (s w : List ℕ) (is : Bool) (id sz : ℕ) (ms : List Member) (z : Packed) (u : List ℕ) where
  pub body_placed : b.placing ≡ true → ask_in z u ≡ measured_in b.types (btf_of b s w) is id sz ms w → ask_in z u ≡ body_in b.types (btf_of b s w) is id sz ms w
  unfolding body_in body_once measured_in btf_of
  body_placed e ez = ez ∙ rw e

  pub body_old : b.placing ≡ false → ask_in z u ≡ packed_at b.types (btf_of b s w) is id sz ms w → ask_in z u ≡ body_in b.types (btf_of b s w) is id sz ms w
  unfolding body_in body_once packed_at btf_of
  body_old e ez = ez ∙ rw e
