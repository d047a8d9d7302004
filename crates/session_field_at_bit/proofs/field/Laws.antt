-- A law for each return of src/lib.rt. Assumes nothing.
use Prim.Native.Nat.{ℕ, zero, suc, ◌+◌, ◌-◌, ◌/◌, ◌≤◌}
use mathlib.Core.Path.{◌≡◌, refl, ap, ◌∙◌, sym}
use mathlib.Core.Bool.{Bool, true, false, not}
use mathlib.Core.List.{List, [], ◌∷◌}
use native.Mathlib.Omega.{arith}
use lib.Dec.{leb}
use lib.ListN.{length}
use Rattle.spec_bytes.specs.words.Words.{put_word}
use Rattle.spec_c_dumper.specs.rules.Writer.{Ask, got, no, ask_then}
use Rattle.spec_type_table.specs.declared.types.TypeTable.{TypeTable}
use Rattle.spec_type_table.specs.declared.types.BtfType.{BtfType as Record}
use Rattle.spec_type_table.specs.Records.{record_by_id}
use Rattle.spec_type_table.specs.Table.{type_of, btf_of}
use Rattle.spec_session.specs.session.Answers.{Answer, Accepted, Refused}
use Rattle.session_field_at_bit.specs.declared.step.Shape.{Shape as CodeShape}
use Rattle.session_field_at_bit.specs.declared.step.Shape.TheVariants as shape
use Rattle.session_field_at_bit.specs.declared.step.Step.{Step as CodeStep}
use Rattle.session_field_at_bit.specs.declared.step.Step.TheVariants as step
use Rattle.session_field_at_bit.specs.step.Path.{shape_of, is_composite, passed, behind, Step, step_in, full, onward, path_from, some_entry, field_path}
use Rattle.session_field_at_bit.specs.field.Calls.{found_of, put_words, lent_path}
use Rattle.std.proofs.lemmas.Bool.{not-true, not-false}
use Rattle.session_field_at_bit.specs.step.Code.{shape_is, step_is, step_asked, asked, PathTold, path_told, entry_put, entry_before}
use Rattle.std.specs.Prelude.{Option, Some, None, Result, Ok, Err}
use Rattle.spec_bytes.specs.Refusals.{refusal_number}
use Rattle.spec_bytes.specs.declared.refusal.Refusal.{Refusal}
use Rattle.spec_bytes.specs.declared.refusal.Refusal.TheVariants.{TooDeep}
use Rattle.session_field_at_bit.specs.field.Code.{written, answer_to}

-- ---- behind
module _ (b : TypeTable) (s w : List ℕ) (left id : ℕ) where
  pub behind_none : left ≡ 0 → shape_is b s shape.Plain ≡ behind left (btf_of b s w) id
  unfolding shape_is behind
  behind_none e = rw e

  module _ (deep : left ≡ 0 → ⊥) (t : Record) (et : t ≡ record_by_id b s w id) (x : CodeShape) (ex : shape_is b s x ≡ shape_of (type_of b s t)) where
    behind_is : (y : CodeShape) → x ≡ y → passed (behind (left - 1) (btf_of b s w)) (shape_is b s y) ≡ behind left (btf_of b s w) id
    unfolding behind btf_of
    behind_is y g =
        let e : left ≡ suc (left - 1) = omega arith in
        ap (λ (z : CodeShape). passed (behind (left - 1) (btf_of b s w)) (shape_is b s z)) (sym g)
        ∙ ap (passed (behind (left - 1) (btf_of b s w))) (ex ∙ ap (λ (z : Record). shape_of (type_of b s z)) et)
        ∙ sym (ap (λ (n : ℕ). behind n (btf_of b s w) id) e)

    pub behind_other : ((y : ℕ) → x ≡ shape.Through y → ⊥) → shape_is b s x ≡ behind left (btf_of b s w) id
    unfolding shape_is passed
    behind_other n = go x n ∙ behind_is x refl
      where
        go : (z : CodeShape) → ((y : ℕ) → z ≡ shape.Through y → ⊥) → shape_is b s z ≡ passed (behind (left - 1) (btf_of b s w)) (shape_is b s z)
        go (shape.Plain) m = refl
        go (shape.Through t) m = absurd (m t refl)
        go (shape.Array t) m = refl
        go (shape.Composite t) m = refl

    pub behind_through : (y : ℕ) (r : CodeShape) → x ≡ shape.Through y → shape_is b s r ≡ behind (left - 1) (btf_of b s w) y → shape_is b s r ≡ behind left (btf_of b s w) id
    unfolding shape_is passed
    behind_through y r g er = er ∙ behind_is _ g

-- ---- walk
same_either : {A : Type 0} → (q : Bool) (a : A) → (elim q [ true ↦ a | false ↦ a ]) ≡ a
same_either true a = refl
same_either false a = refl

written_none : (path : List ℕ) (n : ℕ) → written path n (got []) ≡ path_told (got n) path
unfolding written put_words
written_none path n = let z : n + 0 ≡ n = omega arith in λ i. path_told (got (z i)) (same_either (leb (n + 0) (length path / 4)) path i)

chosen : Bool → List ℕ → List ℕ → List ℕ
chosen q a b = elim q [ true ↦ a | false ↦ b ]

-- an entry, and the path after it
module _ (path : List ℕ) (n k : ℕ) where
  -- the lent path with the entries after this one, where there is room
  rest_put : Bool → List ℕ → List ℕ
  rest_put q p = chosen q (put_words path (n + 1) p) path

  entry_then : (q : Bool) (p : List ℕ) → chosen q (put_word (rest_put q p) n k) (rest_put q p) ≡ chosen q (put_words path n (k ∷ p)) path
  unfolding put_words rest_put chosen
  entry_then true p = let y : n + 1 ≡ suc n = omega arith in ap (λ (m : ℕ). put_word (put_words path m p) n k) y
  entry_then false p = refl

  pub written_more : (x : Ask (List ℕ)) (a : Ask ℕ) (path' : List ℕ) → length path' ≡ length path → path_told a path' ≡ written path (n + 1) x → entry_before path' n k a ≡ written path n (ask_then x (λ p. got (k ∷ p)))
  unfolding written entry_before entry_put ask_then path_told rest_put chosen
  written_more (no c) a path' l e = λ i. entry_before (e i).path n k (e i).answer
  written_more (got p) a path' l e =
      let z : n + 1 + length p ≡ n + suc (length p) = omega arith in
      ap (entry_before path' n k) (ap (λ (x : PathTold). x.answer) e)
      ∙ ap (λ (m : ℕ). path_told (got (n + 1 + length p)) (elim (leb (n + 1 + length p) (m / 4)) [ true ↦ put_word path' n k | false ↦ path' ])) l
      ∙ ap (λ (y : List ℕ). path_told (got (n + 1 + length p)) (elim (leb (n + 1 + length p) (length path / 4)) [ true ↦ put_word y n k | false ↦ y ])) (ap (λ (x : PathTold). x.path) e)
      ∙ ap (path_told (got (n + 1 + length p))) (entry_then (leb (n + 1 + length p) (length path / 4)) p)
      ∙ ap (λ (m : ℕ). path_told (got m) (elim (leb m (length path / 4)) [ true ↦ put_words path n (k ∷ p) | false ↦ path ])) z

module _ (b : TypeTable) (s w : List ℕ) (path : List ℕ) (id bit n : ℕ) (x : CodeShape) (ex : shape_is b s x ≡ behind 512 (btf_of b s w) id) (r : Result (Option CodeStep) Refusal) (er : step_asked r ≡ step_in (btf_of b s w) bit (shape_is b s x)) where
  step_is_lem : step_asked r ≡ step_in (btf_of b s w) bit (behind 512 (btf_of b s w) id)
  step_is_lem = er ∙ ap (step_in (btf_of b s w) bit) ex

  path_is : (left : ℕ) → 512 - n ≡ suc left → path_from (512 - n) (btf_of b s w) id bit ≡ ask_then (step_asked r) (onward (path_from left (btf_of b s w)))
  unfolding path_from
  path_is left z = ap (λ (m : ℕ). path_from m (btf_of b s w) id bit) z ∙ ap (λ (y : Ask Step). ask_then y (onward (path_from left (btf_of b s w)))) (sym step_is_lem)

  path_full : 512 - n ≡ 0 → path_from (512 - n) (btf_of b s w) id bit ≡ ask_then (step_asked r) full
  unfolding path_from
  path_full z = ap (λ (m : ℕ). path_from m (btf_of b s w) id bit) z ∙ ap (λ (y : Ask Step). ask_then y full) (sym step_is_lem)

  zero_or_more : {P : Type 0} → (512 - n ≡ 0 → P) → ((left : ℕ) → 512 - n ≡ suc left → P) → P
  zero_or_more {P} f g = go (512 - n) refl
    where
      go : (m : ℕ) → 512 - n ≡ m → P
      go zero z = f z
      go (suc l) z = g l z

  pub walk_stay : r ≡ Ok None → path_told (asked (Ok n)) path ≡ written path n (path_from (512 - n) (btf_of b s w) id bit)
  unfolding asked step_asked step_is ask_then full onward
  walk_stay g =
      sym (ap (written path n) (zero_or_more
      (λ z. path_full z ∙ ap (λ (y : Result (Option CodeStep) Refusal). ask_then (step_asked y) full) g)
      (λ l z. path_is l z ∙ ap (λ (y : Result (Option CodeStep) Refusal). ask_then (step_asked y) (onward (path_from l (btf_of b s w)))) g))
      ∙ written_none path n)

  pub walk_no : (c : Refusal) → r ≡ Err c → path_told (asked (Err c)) path ≡ written path n (path_from (512 - n) (btf_of b s w) id bit)
  unfolding asked step_asked step_is ask_then written
  walk_no c g =
      sym (ap (written path n) (zero_or_more
      (λ z. path_full z ∙ ap (λ (y : Result (Option CodeStep) Refusal). ask_then (step_asked y) full) g)
      (λ l z. path_is l z ∙ ap (λ (y : Result (Option CodeStep) Refusal). ask_then (step_asked y) (onward (path_from l (btf_of b s w)))) g)))

  pub walk_full : n ≡ 512 → (y : CodeStep) → r ≡ Ok (Some y) → path_told (asked (Err TooDeep)) path ≡ written path n (path_from (512 - n) (btf_of b s w) id bit)
  unfolding asked step_asked step_is ask_then full written
  walk_full h y g =
      let z : 512 - n ≡ 0 = omega arith in
      go y ∙ sym (ap (written path n) (path_full z ∙ ap (λ (u : Result (Option CodeStep) Refusal). ask_then (step_asked u) full) g))
    where
      go : (u : CodeStep) → path_told (asked (Err TooDeep)) path ≡ written path n (ask_then (step_asked (Ok (Some u))) full)
      go (step.Enter k t rest) = refl
      go (step.Field k) = refl

  module _ (h : n ≤ 512) (d : n ≡ 512 → ⊥) (k : ℕ) where
    pub walk_field : r ≡ Ok (Some (step.Field k)) → (path'' : List ℕ) → path'' ≡ entry_put path n k (n + 1) → path_told (asked (Ok (n + 1))) path'' ≡ written path n (path_from (512 - n) (btf_of b s w) id bit)
    unfolding asked step_asked step_is ask_then onward written entry_put put_words
    walk_field g path'' e =
        let z : 512 - n ≡ suc (512 - (n + 1)) = omega arith in
        ap (path_told (got (n + 1))) e
        ∙ sym (ap (written path n) (path_is (512 - (n + 1)) z ∙ ap (λ (y : Result (Option CodeStep) Refusal). ask_then (step_asked y) (onward (path_from (512 - (n + 1)) (btf_of b s w)))) g))

    module _ (t rest : ℕ) (g : r ≡ Ok (Some (step.Enter k t rest))) (y : Result ℕ Refusal) (path' : List ℕ) (l : length path' ≡ length path) (ey : path_told (asked y) path' ≡ written path (n + 1) (path_from (512 - (n + 1)) (btf_of b s w) t rest)) where
      entered_then : entry_before path' n k (asked y) ≡ written path n (path_from (512 - n) (btf_of b s w) id bit)
      unfolding step_asked step_is ask_then onward
      entered_then =
          let z : 512 - n ≡ suc (512 - (n + 1)) = omega arith in
          written_more path n k (path_from (512 - (n + 1)) (btf_of b s w) t rest) (asked y) path' l ey
          ∙ sym (ap (written path n) (path_is (512 - (n + 1)) z ∙ ap (λ (x : Result (Option CodeStep) Refusal). ask_then (step_asked x) (onward (path_from (512 - (n + 1)) (btf_of b s w)))) g))

      pub walk_enter : (len : ℕ) (path'' : List ℕ) → y ≡ Ok len → path'' ≡ entry_put path' n k len → path_told (asked (Ok len)) path'' ≡ written path n (path_from (512 - n) (btf_of b s w) id bit)
      unfolding asked entry_before
      walk_enter len path'' gy e = ap (path_told (got len)) e ∙ sym (ap (λ (x : Result ℕ Refusal). entry_before path' n k (asked x)) gy) ∙ entered_then

      pub walk_refused : (c : Refusal) → y ≡ Err c → path_told (asked (Err c)) path' ≡ written path n (path_from (512 - n) (btf_of b s w) id bit)
      unfolding asked entry_before
      walk_refused c gy = sym (ap (λ (x : Result ℕ Refusal). entry_before path' n k (asked x)) gy) ∙ entered_then

-- ---- find_field
module _ (b : TypeTable) (s w path : List ℕ) (id bit : ℕ) (t : Record) (et : t ≡ record_by_id b s w id) (q : Bool) (eq : q ≡ is_composite (shape_of (type_of b s t))) where
  is_composite_lem : is_composite (shape_of ((btf_of b s w).type_by_id id)) ≡ q
  unfolding btf_of
  is_composite_lem = sym (eq ∙ ap (λ (z : Record). is_composite (shape_of (type_of b s z))) et)

  pub field_not : not q ≡ true → found_of (Refused 21 0) path ≡ lent_path path (field_path (btf_of b s w) id bit)
  unfolding field_path lent_path
  field_not h = let e : field_path (btf_of b s w) id bit ≡ no 21 = rw (is_composite_lem ∙ not-true q h, field_path) in sym (ap (lent_path path) e)

  module _ (h : not q ≡ false) (y : Result ℕ Refusal) (path' : List ℕ) (ey : path_told (asked y) path' ≡ written path 0 (path_from (512 - 0) (btf_of b s w) id bit)) where
    field_is : field_path (btf_of b s w) id bit ≡ ask_then (path_from (512 - 0) (btf_of b s w) id bit) some_entry
    unfolding field_path
    field_is = rw (is_composite_lem ∙ not-false q h, field_path)

    pub field_no : (c : Refusal) → y ≡ Err c → found_of (Refused (refusal_number c) 0) path' ≡ lent_path path (field_path (btf_of b s w) id bit)
    unfolding asked written path_told ask_then lent_path
    field_no c g = go (path_from (512 - 0) (btf_of b s w) id bit) (sym (ap (λ (z : Result ℕ Refusal). path_told (asked z) path') g) ∙ ey) ∙ sym (ap (lent_path path) field_is)
      where
        n : ℕ
        n = refusal_number c

        go : (X : Ask (List ℕ)) → path_told (no n) path' ≡ written path 0 X → found_of (Refused n 0) path' ≡ lent_path path (ask_then X some_entry)
        go (no d) e = let f : no n ≡ no d = ap (λ (x : PathTold). x.answer) e in let cd : n ≡ d = cc in λ i. found_of (Refused (cd i) 0) (e i).path
        go (got p) e = let f : no n ≡ got (0 + length p) = ap (λ (x : PathTold). x.answer) e in let z : ◌≡◌ {A = ℕ} 0 1 = cc in absurd (omega arith)

    pub field_got : (len room : ℕ) (a : Answer) → y ≡ Ok len → room ≡ length path / 4 → a ≡ answer_to room len → found_of a path' ≡ lent_path path (field_path (btf_of b s w) id bit)
    unfolding asked written path_told ask_then lent_path some_entry answer_to put_words chosen
    field_got len room a g er ea = go (path_from (512 - 0) (btf_of b s w) id bit) (sym (ap (λ (z : Result ℕ Refusal). path_told (asked z) path') g) ∙ ey) ∙ sym (ap (lent_path path) field_is)
      where
        -- a path that is not empty
        whole : (l : ℕ) (u : List ℕ) (o : Bool) → found_of (elim o [ true ↦ Accepted l | false ↦ Refused 17 0 ]) (elim o [ true ↦ u | false ↦ path ]) ≡ (elim o [ true ↦ found_of (Accepted l) u | false ↦ found_of (Refused 17 0) path ])
        whole l u true = refl
        whole l u false = refl

        go : (X : Ask (List ℕ)) → path_told (got len) path' ≡ written path 0 X → found_of a path' ≡ lent_path path (ask_then X some_entry)
        go (no d) e = let f : got len ≡ no d = ap (λ (x : PathTold). x.answer) e in let z : ◌≡◌ {A = ℕ} 0 1 = cc in absurd (omega arith)
        go (got []) e =
            let f : got len ≡ got 0 = ap (λ (x : PathTold). x.answer) e in
            let z : len ≡ 0 = cc in
            let u : path' ≡ path = ap (λ (x : PathTold). x.path) e ∙ same_either (leb 0 (length path / 4)) path in
            (λ i. found_of ((ea ∙ ap (answer_to room) z) i) (u i))
        go (got (k ∷ p)) e =
            let f : got len ≡ got (0 + suc (length p)) = ap (λ (x : PathTold). x.answer) e in
            let g : len ≡ 0 + suc (length p) = cc in
            let o : 0 + suc (length p) ≡ suc (length p) = omega arith in
            let u : path' ≡ chosen (leb (suc (length p)) (length path / 4)) (put_words path 0 (k ∷ p)) path = ap (λ (x : PathTold). x.path) e ∙ ap (λ (m : ℕ). chosen (leb m (length path / 4)) (put_words path 0 (k ∷ p)) path) o in
            (λ i. found_of ((ea ∙ ap (answer_to room) (g ∙ o) ∙ ap (λ (m : ℕ). answer_to m (suc (length p))) er) i) (u i))
            ∙ whole (suc (length p)) (put_words path 0 (k ∷ p)) (leb (suc (length p)) (length path / 4))
