-- A law for each return of the code of a step and of an entry. Assumes nothing.
use Prim.Native.Nat.{ℕ, suc, ◌+◌, ◌-◌, ◌<◌, ◌≤◌}
use mathlib.Core.Path.{◌≡◌, refl, ap, ◌∙◌, sym}
use mathlib.Core.Bool.{Bool, true, false}
use mathlib.Core.List.{List}
use native.Mathlib.Omega.{arith}
use lib.Dec.{eqb}
use Rattle.spec_c_dumper.specs.rules.Writer.{Ask, got, no, ask_then}
use Rattle.spec_c_dumper.specs.rules.Layout.{end_of}
use Rattle.spec_type_table.specs.declared.types.TypeTable.{TypeTable}
use Rattle.spec_type_table.specs.declared.types.BtfType.{BtfType as Record}
use Rattle.spec_type_table.specs.declared.types.BtfMember.{BtfMember}
use Rattle.spec_type_table.specs.Records.{vlen_of, member_of}
use Rattle.spec_type_table.specs.Table.{from, rule_member, members_of, btf_of}
use Rattle.spec_bytes.specs.declared.refusal.Refusal.{Refusal}
use Rattle.spec_bytes.specs.Refusals.{refusal_number}
use Rattle.session_field_at_bit.specs.declared.step.Step.{Step as CodeStep}
use Rattle.session_field_at_bit.specs.declared.step.Step.TheVariants as step
use Rattle.session_field_at_bit.specs.step.Path.{Step, stay, enter, field, covers, entered, tried}
use Rattle.session_field_at_bit.specs.step.Code.{step_is, step_asked, member_step}
use Rattle.std.specs.Prelude.{Option, Some, None, Result, Ok, Err}

-- ---- the loop of find_member
module _ (b : TypeTable) (s w : List ℕ) (t : Record) (bit : ℕ) where
  -- what the members from k on say
  pub tried_rest : ℕ → Ask Step
  tried_rest k = tried (btf_of b s w) bit k (from (λ i. rule_member b s (member_of b s t i)) k (vlen_of t.info - k))

  pub tried_start : tried (btf_of b s w) bit 0 (members_of b s t) ≡ tried_rest 0
  unfolding tried_rest
  tried_start = let z : vlen_of t.info ≡ vlen_of t.info - 0 = omega arith in ap (λ (n : ℕ). tried (btf_of b s w) bit 0 (from (λ i. rule_member b s (member_of b s t i)) 0 n)) z

  module _ (k n : ℕ) (m : BtfMember) (en : n ≡ vlen_of t.info) (l : k < n) (em : m ≡ member_of b s t k) where
    -- member k covers the bit, or the others decide
    entered_or : Bool → Ask Step
    entered_or q = elim q [ true ↦ got (entered (rule_member b s m) k bit) | false ↦ tried_rest (k + 1) ]

    entered_only : Bool → Step
    entered_only q = elim q [ true ↦ entered (rule_member b s m) k bit | false ↦ stay ]

    one_then : Ask ℕ → Ask Step
    one_then e = ask_then e (λ end. entered_or (covers m.bit_offset end bit))

    tried_one : tried_rest k ≡ one_then (end_of (btf_of b s w) (rule_member b s m))
    unfolding tried_rest from tried one_then entered_or
    tried_one =
        let z : vlen_of t.info - k ≡ suc (vlen_of t.info - (k + 1)) = omega arith in
        ap (λ (n : ℕ). tried (btf_of b s w) bit k (from (λ i. rule_member b s (member_of b s t i)) k n)) z
        ∙ ap (λ (y : BtfMember). ask_then (end_of (btf_of b s w) (rule_member b s y)) (λ end. elim (covers y.bit_offset end bit) [ true ↦ got (entered (rule_member b s y) k bit) | false ↦ tried_rest (k + 1) ])) (sym em)

    never_stays : entered (rule_member b s m) k bit ≡ stay → ⊥
    unfolding entered
    never_stays = go (eqb m.bit_size 0)
      where
        go : (q : Bool) → (elim q as (λ _. Step) [ true ↦ enter k m.type_id (bit - m.bit_offset) | false ↦ field k ]) ≡ stay → ⊥
        go true e = cc
        go false e = cc

    step_picked : (end : ℕ) → member_step m k end bit ≡ entered_only (covers m.bit_offset end bit)
    unfolding member_step entered entered_only
    step_picked end = refl

    -- what member k says decides, unless it is to stay
    decides : (e : Ask ℕ) (x : Ask Step) → x ≡ ask_then e (λ end. got (member_step m k end bit)) → (x ≡ got stay → one_then e ≡ tried_rest (k + 1)) × ((x ≡ got stay → ⊥) → one_then e ≡ x)
    unfolding one_then ask_then entered_or entered_only
    decides (no c) x ex = (λ h. let z : no c ≡ got stay = sym ex ∙ h in cc, λ h. sym ex)
    decides (got end) x ex = go (covers m.bit_offset end bit) refl
      where
        go : (q : Bool) → covers m.bit_offset end bit ≡ q → (x ≡ got stay → one_then (got end) ≡ tried_rest (k + 1)) × ((x ≡ got stay → ⊥) → one_then (got end) ≡ x)
        go true e =
            let y : x ≡ got (entered (rule_member b s m) k bit) = ex ∙ ap got (step_picked end ∙ ap entered_only e) in
            (λ h. let z : got (entered (rule_member b s m) k bit) ≡ got stay = sym y ∙ h in absurd (never_stays cc), λ h. ap entered_or e ∙ sym y)
        go false e =
            let y : x ≡ got stay = ex ∙ ap got (step_picked end ∙ ap entered_only e) in
            (λ h. ap entered_or e, λ h. absurd (h y))

    module _ (r : Result (Option CodeStep) Refusal) (er : step_asked r ≡ ask_then (end_of (btf_of b s w) (rule_member b s m)) (λ end. got (member_step m k end bit))) (T : Ask Step) (i : T ≡ tried_rest k) where
      pub tried_more : r ≡ Ok None → T ≡ tried_rest (k + 1)
      unfolding step_asked step_is
      tried_more g = i ∙ tried_one ∙ (decides _ _ er).0 (ap step_asked g)

      pub tried_found : (step_asked r ≡ got stay → ⊥) → step_asked r ≡ T
      tried_found h = sym (i ∙ tried_one ∙ (decides _ _ er).1 h)

      pub tried_step : (x : CodeStep) → r ≡ Ok (Some x) → step_asked (Ok (Some x)) ≡ T
      unfolding step_asked step_is
      tried_step x g = ap step_asked (sym g) ∙ tried_found (λ e. go x (sym (ap step_asked g) ∙ e))
        where
          go : (y : CodeStep) → step_asked (Ok (Some y)) ≡ got stay → ⊥
          go (step.Enter a c d) e = cc
          go (step.Field a) e = cc

      pub tried_refused : (c : Refusal) → r ≡ Err c → step_asked (Err c) ≡ T
      unfolding step_asked
      tried_refused c g = ap step_asked (sym g) ∙ tried_found (λ e. let z : no (refusal_number c) ≡ got stay = sym (ap step_asked g) ∙ e in cc)

  pub tried_end : (T : Ask Step) (k n : ℕ) → T ≡ tried_rest k → n ≡ vlen_of t.info → n ≤ k → step_asked (Ok None) ≡ T
  unfolding tried_rest from tried step_is step_asked
  tried_end T k n i en l =
      let z : vlen_of t.info - k ≡ 0 = omega arith in
      sym (i ∙ ap (λ (n : ℕ). tried (btf_of b s w) bit k (from (λ i. rule_member b s (member_of b s t i)) k n)) z)
