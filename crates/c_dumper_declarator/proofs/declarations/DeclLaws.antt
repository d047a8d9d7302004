-- What each return of emit_type_decl, emit_type_chain and emit_links comes to. Assumes nothing.
use Prim.Native.Nat.{ℕ, zero, suc, ◌-◌, ◌<◌, ◌≤◌}
use mathlib.Core.Path.{◌≡◌, refl, ap, ◌∙◌, sym, subst}
use mathlib.Core.Bool.{Bool, true, false}
use mathlib.Core.List.{List, [], ◌∷◌}
use native.Mathlib.Omega.{arith}
use Rattle.spec_bytes.specs.text.Text.{whole}
use Rattle.spec_bytes.specs.text.Placed.{Placed, placed, put_out, put_text}
use Rattle.spec_c_dumper.specs.rules.Writer.{Writer, stop, ◌⨾◌}
use Rattle.spec_c_dumper.specs.rules.Types.{Name}
use Rattle.spec_c_dumper.specs.rules.Decl.{Entry, base, chain_of, emit_name}
use Rattle.spec_c_dumper.specs.alignment_once.Writers.{emit_type_decl_once, emit_type_chain_once}
use Rattle.spec_c_dumper.specs.rules.Place.{out_of, put_said}
use Rattle.spec_c_dumper.proofs.rules.Writing.{stop_only, put_given, put_refused, said_past, said_ended}
use Rattle.spec_type_table.specs.declared.types.TypeTable.{TypeTable}
use Rattle.spec_type_table.specs.Records.{record_by_id}
use Rattle.c_dumper_bodies.specs.declared.chain.links.Base.{Base}
use Rattle.std.specs.Prelude.{Option, Some, None, ok_or, Result, Ok, Err, IsErrAnd, IfOk}
use Rattle.spec_bytes.proofs.text.TextLaws.{put_cut}
use Rattle.spec_bytes.specs.declared.refusal.Refusal.{Refusal}
use Rattle.spec_bytes.specs.declared.refusal.Refusal.TheVariants.{TooDeep}
use Rattle.c_dumper_name_versions.specs.names.Spelling.{name_after}
use Rattle.c_dumper_bodies.specs.chain.Chains.{chain_at, chain_is, RecordIs, only_links}
use Rattle.c_dumper_bodies.proofs.chain.Only.{links_left}
use Rattle.c_dumper_bodies.proofs.chain.Paths.{chain_top}
use Rattle.c_dumper_declarator.specs.declared.declarations.Rest.{Rest}
use Rattle.c_dumper_declarator.specs.declared.declarations.Stand.{Stand}
use Rattle.c_dumper_declarator.specs.declarations.Rests.{RestIs}
use Rattle.c_dumper_bodies.specs.bodies.Pieces.{entry_left, entry_star, entry_named, entry_text, chain_rest}
use Rattle.c_dumper_declarator.proofs.declarations.Sequences.{then_nothing}
use Rattle.c_dumper_declarator.proofs.declarations.Turns.{chain_turn, chain_done, chain_named, decl_none, chain_none, decl_some, chain_some}
use Rattle.c_dumper_declarator.proofs.declarations.Kept.{Begun, put_begun, seen, links_kept, Leads, leads_end, leads_turn, leads_halt}
use Rattle.c_dumper_declarator.proofs.declarations.Keeping.{said_as, put_emit_name, N, Q, T, kept_entry}

-- too many calls are open, or a chain has too many entries
pub too_deep : (t : List ℕ) (at : ℕ) (u : List ℕ) → out_of (Err TooDeep) t u ≡ put_said t (Ok at) (stop 12) u
too_deep t at u = stop_only _ t (Ok at) 12 u (Err TooDeep) t (put_cut t at TooDeep)

no_base : (x : Option Base) (d : Refusal) → Err d ≡ ok_or x TooDeep → (x ≡ None) × (d ≡ TooDeep)
no_base None d e = (refl, cc)
no_base (Some y) d e = absurd (let z : ◌≡◌ {A = ℕ} 0 1 = cc in omega arith)

module _ (b : TypeTable) (s : List ℕ) where
  -- ---- emit_type_decl
  pub decl_record : (u : List ℕ) (x : Option Base) (y : Base) → RecordIs b s u x → x ≡ Some y → y.x.t ≡ record_by_id b s u y.x.id
  unfolding RecordIs
  decl_record u x y p e = subst (RecordIs b s u) e p

  module _ (t : List ℕ) (at : ℕ) (u : List ℕ) (id : ℕ) (fname : Name) (lvl left : ℕ) where
    pub decl_zero : left ≡ 0 → out_of (Err TooDeep) t u ≡ put_said t (Ok at) (emit_type_decl_once (Q b s (T b s u)) (N b s) (T b s u) left id fname lvl) u
    decl_zero e = said_as t (Ok at) (stop 12) _ u (Err TooDeep) t u (sym (decl_none (Q b s (T b s u)) (N b s) (T b s u) left id fname lvl e)) (too_deep t at u)

    module _ (h : left ≡ 0 → ⊥) (x : Option Base) (a : (chain_is b s u id x ≡ chain_of 512 (T b s u) id []) × RecordIs b s u x) where
      pub decl_got : (y : Base) (t' u' : List ℕ) (r : Placed) → x ≡ Some y
          → out_of r t' u' ≡ put_said t (Ok at) (emit_type_chain_once (Q b s (T b s u)) (N b s) (T b s u) (left - 1) (base y.x.id ∷ chain_at b s u id y.n) fname lvl) u → out_of r t' u' ≡ put_said t (Ok at) (emit_type_decl_once (Q b s (T b s u)) (N b s) (T b s u) left id fname lvl) u
      unfolding chain_is
      decl_got y t' u' r e o =
          said_as t (Ok at) _ _ u r t' u' (sym (decl_some (Q b s (T b s u)) (N b s) (T b s u) left id fname lvl h))
          (put_given _ t (Ok at) (λ c. emit_type_chain_once (Q b s (T b s u)) (N b s) (T b s u) (left - 1) c fname lvl) u (base y.x.id ∷ chain_at b s u id y.n) (chain_of 512 (T b s u) id []) r t' u' (sym a.0 ∙ ap (chain_is b s u id) e) o)

      pub decl_no : (d : Refusal) (r : Placed) → Err d ≡ ok_or x TooDeep → IsErrAnd r (λ e. e ≡ d) → out_of r t u ≡ put_said t (Ok at) (emit_type_decl_once (Q b s (T b s u)) (N b s) (T b s u) left id fname lvl) u
      unfolding chain_is
      decl_no d r q i =
          let n = no_base x d q in
          said_as t (Ok at) _ _ u r t u (sym (decl_some (Q b s (T b s u)) (N b s) (T b s u) left id fname lvl h))
          (put_refused _ t (Ok at) (λ c. emit_type_chain_once (Q b s (T b s u)) (N b s) (T b s u) (left - 1) c fname lvl) u 12 (chain_of 512 (T b s u) id []) r t u (sym a.0 ∙ ap (chain_is b s u id) n.0)
          (said_ended _ t r d (stop 12) u i ∙ sym (said_past _ t d (stop 12) u) ∙ ap (λ c. out_of (Err c) t u) n.1 ∙ too_deep t at u))

  -- ---- emit_type_chain
  module _ (t : List ℕ) (at : ℕ) (u : List ℕ) (c : List Entry) (fname : Name) (lvl left : ℕ) where
    pub chain_zero : left ≡ 0 → out_of (Err TooDeep) t u ≡ put_said t (Ok at) (emit_type_chain_once (Q b s (T b s u)) (N b s) (T b s u) left c fname lvl) u
    chain_zero e = said_as t (Ok at) (stop 12) _ u (Err TooDeep) t u (sym (chain_none (Q b s (T b s u)) (N b s) (T b s u) left c fname lvl e)) (too_deep t at u)

  -- what is left of a chain that is being printed
  pub chain_left : ℕ → ℕ → Name → ℕ → Rest → List ℕ → Begun
  chain_left below id fname lvl c w = (chain_rest (Q b s (T b s w)) (N b s) (T b s w) below fname lvl false c.last_was_ptr (chain_at b s w id c.n), w)

  module _ (below id : ℕ) (fname : Name) (lvl : ℕ) (p : Placed) (c : Rest) (w : List ℕ) where
    -- an entry's promise
    abbrev pub Printed : List ℕ → Result Stand Refusal → List ℕ → List ℕ → Type 0
    Printed t r t' w' =
        (out_of (placed (λ x. x.at) r) t' w' ≡ put_said t p (entry_text (Q b s (T b s w)) (N b s) (T b s w) below fname lvl c.last_was_ptr (chain_at b s w id c.n)) w)
        × IfOk r (λ x. RestIs (chain_at b s w id) c.n x.rest)

    turn_is : 0 < c.n → chain_rest (Q b s (T b s w)) (N b s) (T b s w) below fname lvl false c.last_was_ptr (chain_at b s w id c.n)
        ≡ entry_text (Q b s (T b s w)) (N b s) (T b s w) below fname lvl c.last_was_ptr (chain_at b s w id c.n) ⨾ chain_rest (Q b s (T b s w)) (N b s) (T b s w) below fname lvl (entry_named (chain_at b s w id c.n)) (entry_star (chain_at b s w id c.n)) (entry_left (chain_at b s w id c.n))
    turn_is h = let top = chain_top b s w id c.n (λ z. omega arith) in rw top (chain_turn (Q b s (T b s w)) (N b s) (T b s w) below fname lvl c.last_was_ptr _ _)

    turn_on : (x : Rest) → 0 < c.n → RestIs (chain_at b s w id) c.n (Some x)
        → chain_rest (Q b s (T b s w)) (N b s) (T b s w) below fname lvl false c.last_was_ptr (chain_at b s w id c.n) ≡ entry_text (Q b s (T b s w)) (N b s) (T b s w) below fname lvl c.last_was_ptr (chain_at b s w id c.n) ⨾ chain_rest (Q b s (T b s w)) (N b s) (T b s w) below fname lvl false x.last_was_ptr (chain_at b s w id x.n)
    turn_on x h e =
        let q : entry_star (chain_at b s w id c.n) ≡ x.last_was_ptr = sym e.1 in
        let l : entry_left (chain_at b s w id c.n) ≡ chain_at b s w id x.n = sym e.0 in
        turn_is h ∙ (λ i. entry_text (Q b s (T b s w)) (N b s) (T b s w) below fname lvl c.last_was_ptr (chain_at b s w id c.n) ⨾ chain_rest (Q b s (T b s w)) (N b s) (T b s w) below fname lvl (e.2 i) (q i) (l i))

    turn_ends : 0 < c.n → RestIs (chain_at b s w id) c.n None
        → chain_rest (Q b s (T b s w)) (N b s) (T b s w) below fname lvl false c.last_was_ptr (chain_at b s w id c.n) ≡ entry_text (Q b s (T b s w)) (N b s) (T b s w) below fname lvl c.last_was_ptr (chain_at b s w id c.n)
    turn_ends h e =
        turn_is h
        ∙ ap (λ (k : Bool). entry_text (Q b s (T b s w)) (N b s) (T b s w) below fname lvl c.last_was_ptr (chain_at b s w id c.n) ⨾ chain_rest (Q b s (T b s w)) (N b s) (T b s w) below fname lvl k (entry_star (chain_at b s w id c.n)) (entry_left (chain_at b s w id c.n))) e
        ∙ ap (◌⨾◌ (entry_text (Q b s (T b s w)) (N b s) (T b s w) below fname lvl c.last_was_ptr (chain_at b s w id c.n))) (chain_named (Q b s (T b s w)) (N b s) (T b s w) below fname lvl (entry_star (chain_at b s w id c.n)) _)
        ∙ then_nothing _

    some_rest : (r : Stand) (x : Rest) → r.rest ≡ Some x → RestIs (chain_at b s w id) c.n r.rest → RestIs (chain_at b s w id) c.n (Some x)
    some_rest r x e h = subst (RestIs (chain_at b s w id) c.n) e h

    pub chain_again : (t₀ : List ℕ) (at₀ : Placed) (s₀ : Begun) (t : List ℕ) (r : Stand) (t' w' : List ℕ) (x : Rest) → r.rest ≡ Some x → 0 < c.n
        → Leads b s t₀ at₀ s₀ t p (chain_left below id fname lvl c w) → Printed t (Ok r) t' w' → Leads b s t₀ at₀ s₀ t' (Ok r.at) (chain_left below id fname lvl x w')
    unfolding chain_left seen
    chain_again t₀ at₀ s₀ t r t' w' x e h l q =
        leads_turn b s (λ y. chain_rest (Q b s y.0) (N b s) y.0 below fname lvl false x.last_was_ptr (y.1 id x.n)) t₀ at₀ s₀ t p _
        (entry_text (Q b s (T b s w)) (N b s) (T b s w) below fname lvl c.last_was_ptr (chain_at b s w id c.n)) w (Ok r.at) t' w' l
        (ap (λ (v : Writer (List ℕ)). (v, w)) (turn_on x h (some_rest r x e q.1)))
        (kept_entry b s (T b s w) below fname lvl c.last_was_ptr (chain_at b s w id c.n))
        q.0

    -- a refusal stopped it
    pub chain_stops : (t₀ : List ℕ) (at₀ : Placed) (s₀ : Begun) (t : List ℕ) (d : Refusal) (t' w' : List ℕ) (r : Placed) → 0 < c.n
        → Leads b s t₀ at₀ s₀ t p (chain_left below id fname lvl c w) → Printed t (Err d) t' w' → IsErrAnd r (λ e. e ≡ d) → out_of r t' w' ≡ put_begun t₀ at₀ s₀
    unfolding chain_left
    chain_stops t₀ at₀ s₀ t d t' w' r h l q i =
        leads_halt b s t₀ at₀ s₀ t p _ (entry_text (Q b s (T b s w)) (N b s) (T b s w) below fname lvl c.last_was_ptr (chain_at b s w id c.n)) _ w d t' w' r l
        (ap (λ (v : Writer (List ℕ)). (v, w)) (turn_is h)) (kept_entry b s (T b s w) below fname lvl c.last_was_ptr (chain_at b s w id c.n)) q.0 i

    pub chain_links : (t : List ℕ) (r : Stand) (t' w' : List ℕ) (x : Rest) → r.rest ≡ Some x → Printed t (Ok r) t' w'
        → only_links (chain_at b s w id c.n) ≡ true → only_links (chain_at b s w' id x.n) ≡ true
    chain_links t r t' w' x e q l =
        links_kept b s _ t p w r.at t' w' id x.n (kept_entry b s (T b s w) below fname lvl c.last_was_ptr (chain_at b s w id c.n)) q.0
        (ap only_links (some_rest r x e q.1).0 ∙ links_left (chain_at b s w id c.n) l)

    -- the name stands
    pub chain_stands : (t₀ : List ℕ) (at₀ : Placed) (s₀ : Begun) (t : List ℕ) (r : Stand) (t' w' : List ℕ) → r.rest ≡ None → 0 < c.n
        → Leads b s t₀ at₀ s₀ t p (chain_left below id fname lvl c w) → Printed t (Ok r) t' w' → out_of (Ok r.at) t' w' ≡ put_begun t₀ at₀ s₀
    unfolding chain_left
    chain_stands t₀ at₀ s₀ t r t' w' e h l q =
        leads_end b s t₀ at₀ s₀ t p _ (Ok r.at) t' w' l
        (said_as t p (entry_text (Q b s (T b s w)) (N b s) (T b s w) below fname lvl c.last_was_ptr (chain_at b s w id c.n)) _ w (Ok r.at) t' w' (sym (turn_ends h (subst (RestIs (chain_at b s w id) c.n) e q.1))) q.0)

    none_left : (n : ℕ) → n ≤ 0 → chain_at b s w id n ≡ []
    unfolding chain_at
    none_left zero h = refl
    none_left (suc n) h = absurd (omega arith)

    -- no entry is left: the name
    pub chain_ends : (t₀ : List ℕ) (at₀ : Placed) (s₀ : Begun) (t : List ℕ) (r : Placed) (t' : List ℕ)
        → Leads b s t₀ at₀ s₀ t p (chain_left below id fname lvl c w) → c.n ≤ 0
        → put_out r t' ≡ put_text t p (whole (name_after fname c.last_was_ptr)) → out_of r t' w ≡ put_begun t₀ at₀ s₀
    unfolding chain_left
    chain_ends t₀ at₀ s₀ t r t' l h o =
        leads_end b s t₀ at₀ s₀ t p _ r t' w l
        (said_as t p (emit_name fname c.last_was_ptr) _ w r t' w
        (sym (ap (chain_rest (Q b s (T b s w)) (N b s) (T b s w) below fname lvl false c.last_was_ptr) (none_left c.n h) ∙ chain_done (Q b s (T b s w)) (N b s) (T b s w) below fname lvl c.last_was_ptr))
        (put_emit_name t p fname c.last_was_ptr w r t' o))

  -- the whole chain
  pub chain_whole : (t : List ℕ) (at : Placed) (u : List ℕ) (id n : ℕ) (fname : Name) (lvl left : ℕ) (r : Placed) (t' u' : List ℕ) → (left ≡ 0 → ⊥)
      → out_of r t' u' ≡ put_said t at (chain_rest (Q b s (T b s u)) (N b s) (T b s u) (left - 1) fname lvl false true (chain_at b s u id n)) u
      → out_of r t' u' ≡ put_said t at (emit_type_chain_once (Q b s (T b s u)) (N b s) (T b s u) left (chain_at b s u id n) fname lvl) u
  chain_whole t at u id n fname lvl left r t' u' h o = said_as t at _ _ u r t' u' (sym (chain_some (Q b s (T b s u)) (N b s) (T b s u) left (chain_at b s u id n) fname lvl h)) o

  -- what is left of it, from its start on
  pub links_whole : (t : List ℕ) (at : Placed) (u : List ℕ) (id n : ℕ) (p : Bool) (fname : Name) (lvl below : ℕ) (r : Placed) (t' u' : List ℕ)
      → out_of r t' u' ≡ put_begun t at (chain_left below id fname lvl (record { n = n; last_was_ptr = p }) u)
      → out_of r t' u' ≡ put_said t at (chain_rest (Q b s (T b s u)) (N b s) (T b s u) below fname lvl false p (chain_at b s u id n)) u
  unfolding chain_left
  links_whole t at u id n p fname lvl below r t' u' o = o
