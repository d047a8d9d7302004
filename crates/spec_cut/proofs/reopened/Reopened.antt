-- THE THEOREM: a section cut down, opened afresh, gives the same text and refusals for the renumbered requests, in the calls of two sessions. It is
-- of every section that opening accepts, and of every m that tells which ids are kept. Assumes nothing.
use Prim.Native.Nat.{ℕ, zero, suc, ◌+◌, ◌-◌, ◌*◌, ◌<◌, ◌≤◌}
use native.Mathlib.Omega.{arith}
use mathlib.Core.Path.{◌≡◌, refl, sym, ◌∙◌, ap, subst}
use mathlib.Core.Bool.{Bool, true}
use mathlib.Core.List.{List, [], ◌∷◌, ◌++◌, Memᴰ}
use mathlib.Core.Logic.{◌⊎◌, inl, inr}
use lib.ListN.{length, get_or, replicate}
use Rattle.spec_linux_btf.specs.Documentation.{Described, Every, Allowed}
use Rattle.spec_linux_btf.specs.Reading.{Bytes}
use Rattle.spec_linux_btf.specs.Section.{str_len_of, string_area}
use Rattle.spec_linux_btf.proofs.Claims.{section_fields}
use Rattle.spec_c_dumper.specs.rules.Types.{BtfType, Btf as Rules, table_of}
use Rattle.spec_c_dumper.specs.rules.Names.{Names, Naming, naming}
use Rattle.spec_c_dumper.specs.rules.Order.{Table}
use Rattle.spec_c_dumper.specs.rules.Machine.{Machine, Sess, Answer, Req, one, single, serve, run}
use Rattle.spec_type_table.specs.declared.types.TypeTable.{TypeTable}
use Rattle.spec_type_table.specs.Names.{name_at, str_at}
use Rattle.spec_type_table.specs.Table as btf
use Rattle.spec_type_table.specs.Documented.{kept}
use Rattle.btf_open_causes.specs.header.Header as header
use Rattle.spec_opening.specs.Table as opening
use Rattle.spec_opening.specs.Table.{enumerators_of}
use Rattle.spec_opening.specs.Causes.{opening_number}
use Rattle.spec_opening.proofs.ReadBack.{header_ok, strings_ok, types_ok, section_short}
use Rattle.spec_session.specs.session.Turns.{Call}
use Rattle.spec_session.specs.calls.Calls.{type_call}
use Rattle.spec_c_dumper.specs.needs.Lists.{Ls}
use Rattle.spec_c_dumper.specs.needs.Session.{Known, text_of, machine_by, opened_by, machine, no_names, opened, dump_types}
use Rattle.spec_cut.specs.section.Kept.{void_type, Tells}
use Rattle.spec_cut.specs.section.Renumbered.{new_id}
use Rattle.spec_cut.specs.section.Strings.{all_mentions}
use Rattle.spec_cut.specs.section.Test.{is_kept}
use Rattle.spec_cut.specs.section.Section.{types_of, old_types, new_types, new_strings, cut_section}
use Rattle.spec_cut.specs.section.Stands.{Renumbered, no_requests, request}
use Rattle.spec_cut.specs.section.Table.{Reads}
use Rattle.spec_cut.proofs.section.Numbers.{Stays, is_void, is_kept_lem}
use Rattle.spec_cut.proofs.section.Written.{every_kept}
use Rattle.spec_cut.proofs.section.Steps.{BothAnswer}
use Rattle.spec_cut.proofs.section.Sessions.{pieces_text}
use Rattle.spec_cut.proofs.section.Test.{kept_tells}
use Rattle.spec_cut.proofs.section.Claims as cut_claims
use Rattle.proof_demands.specs.demands.Table.{tag_ids}
use Rattle.proof_demands.specs.demands.Table.{header_of, opened_table, names_in}
use Rattle.proof_demands.specs.demands.Claims.{Documents}
use Rattle.proof_demands.specs.demands.Session as told
use Rattle.proof_demands.specs.demands.Session.{After, after_open, after_one}
use Rattle.proof_demands.specs.demands.Demands.{Lent}
use Rattle.proof_demands.proofs.demands.Claims.{opened_documents}
use Rattle.proof_demands.proofs.demands.Demands.{open_number, delivered}
use Rattle.spec_cut.specs.reopened.Reopened.{OldNames, SameText, SameAnswer, HasNumber, HasNewNumber, Beside, both_open, both_ask, Reopens}
use Rattle.spec_cut.proofs.reopened.Accepts as accepts
use Rattle.spec_cut.proofs.reopened.Strings.{all_below, area_length, name_in_area}

-- the table of an accepted section is read from its types
pub reads : (p modes : ℕ) (s : List ℕ) (n : ℕ) → opening_number p s n ≡ 0 → Bytes s → Reads (opened_table p modes s n) (header_of p modes s) s (types_of s)
unfolding opening.types_of
reads p modes s n ok y = record {
  count = d.count;
  zero_void = d.zero_void;
  type = λ i l. let z : suc i - 1 ≡ i = omega arith in d.type (suc i) (omega arith) (omega (arith, l)) void_type ∙ ap (λ (k : ℕ). btf_type k) z;
  tags = λ id l.
      let z : suc (length (types_of s)) - 1 ≡ length (types_of s) = omega arith in
      d.tags id l ∙ ap (tag_ids (opened_table p modes s n).type_by_id id 1) z;
}
  where
    d : Documents p modes s n
    d = opened_documents p modes s n ok y

    btf_type : ℕ → BtfType
    btf_type k = kept (header_of p modes s).strs s (get_or (types_of s) k void_type)

pub run_more : {M H : Type 0} (X : Machine M H) (T : Table) (rs : List Req) (r : Req) (L : Sess M) → run X T (rs ++ (r ∷ [])) L ≡ serve X T (run X T rs L) r
unfolding run
run_more X T [] r L = refl
run_more X T (q ∷ rs) r L = run_more X T rs r (serve X T L q)

-- "the old naming mode" has the names of the Rust
old_names : (p modes : ℕ) (s : List ℕ) (n : ℕ) → OldNames modes → names_in p modes s n ≡ naming
unfolding names_in
old_names p modes s n e = rw (e, names_in)

module _ (p modes : ℕ) (old : OldNames modes) (s : List ℕ) (n : ℕ) (ok : opening_number p s n ≡ 0) (y : Bytes s) (given : List ℕ) (m : ℕ → Bool) (tells : Tells (types_of s) given m)
    (short : length (cut_section m s) ≤ 16777216) (n' : ℕ) (enough : 4 * (16 * opening.types_of (cut_section m s) + 8 * enumerators_of (cut_section m s) + 4096) ≤ n') where
  abbrev s' : List ℕ
  s' = cut_section m s

  ok' : opening_number p s' n' ≡ 0
  ok' = accepts.accepted p s n ok y given m tells short n' enough

  names : names_in p modes s n ≡ naming
  names = old_names p modes s n old

  names' : names_in p modes s' n' ≡ naming
  names' = old_names p modes s' n' old

  abbrev B : Rules
  B = opened_table p modes s n

  abbrev B' : Rules
  B' = opened_table p modes s' n'

  abbrev b : TypeTable
  b = header_of p modes s

  abbrev b' : TypeTable
  b' = header_of p modes s'

  was : Reads B b s (types_of s)
  was = reads p modes s n ok y

  new : Reads B' b' s' (new_types m s)
  new = subst (λ (ts : List Described). Reads B' b' s' ts) (accepts.types_read p s n ok y given m tells short) (reads p modes s' n' ok' (accepts.new_bytes p s n ok y given m tells short))

  in_area : (k : ℕ) → Memᴰ k (all_mentions (old_types m s)) → str_at b s k ≡ name_at (string_area s) k
  in_area k h =
      let kept : Every (Allowed (str_len_of s)) (old_types m s) = every_kept (Allowed (str_len_of s)) m 1 (types_of s) (section_fields s y (header_ok p modes s n ok) (types_ok p modes s n ok)).allowed in
      name_in_area s (header_ok p modes s n ok) (section_short p modes s n ok) p modes (opening.types_of s) (strings_ok p modes s n ok) k
      (omega (arith, all_below (str_len_of s) (old_types m s) kept k h, area_length s (header_ok p modes s n ok)))

  in_new : (k : ℕ) → k < length (new_strings m s) → str_at b' s' k ≡ name_at (new_strings m s) k
  in_new k l =
      let e : string_area s' ≡ new_strings m s = accepts.strings_read p s n ok y given m tells short in
      name_in_area s' (header_ok p modes s' n' ok') short p modes (opening.types_of s') (strings_ok p modes s' n' ok') k (subst (λ (a : List ℕ). k < length a) (sym e) l)
      ∙ ap (λ (a : List ℕ). name_at a k) e

  good : cut_claims.GoodReferences (types_of s)
  good = accepts.good p s n ok y given m tells short

  same_pointer : B.ptr_sz ≡ B'.ptr_sz
  unfolding btf.btf_of header.btf_of
  same_pointer = refl

  same_union : B.union_as_struct ≡ B'.union_as_struct
  unfolding btf.btf_of header.btf_of
  same_union = refl

  same_strong : B.strong_arrays ≡ B'.strong_arrays
  unfolding btf.btf_of header.btf_of
  same_strong = refl

  same_placing : B.placing ≡ B'.placing
  unfolding btf.btf_of header.btf_of
  same_placing = refl

  abbrev NewNumber : ℕ → ℕ → Type 0
  NewNumber x x' = cut_claims.NewNumber given m s s' b b' B B' tells good was new in_area in_new same_pointer same_union same_strong same_placing x x'

  abbrev Alike : Sess (Ls (Known Names)) → Sess (Ls (Known Names)) → Type 0
  Alike S S' = cut_claims.Alike given m s s' b b' B B' tells good was new in_area in_new same_pointer same_union same_strong same_placing S S'

  number : (x : ℕ) → HasNumber p modes s n m n' x → NewNumber x (new_id m x)
  unfolding opening.types_of
  number x h = record { stays = stays x h.1; inside = omega (arith, h.0); number = refl }
    where
      stays : (x : ℕ) → (x ≡ 0) ⊎ (m x ≡ true) → Stays m x
      stays zero q = is_void
      stays (suc i) (inl e) = absurd (omega (arith, e))
      stays (suc i) (inr e) = is_kept_lem i e

  renumbered : {rs rs' : List Req} → Renumbered (HasNewNumber p modes s n m n') rs rs' → Renumbered NewNumber rs rs'
  renumbered no_requests = no_requests
  renumbered (request room x x' i r) = request room x x' (subst (NewNumber x) (sym i.1) (number x i.0)) (renumbered r)

  -- `same_answers` of `spec_cut::section`, of the tables that the two openings leave
  dumps : {rs rs' : List Req} → Renumbered (HasNewNumber p modes s n m n') rs rs' → dump_types B rs ≡ dump_types B' rs'
  dumps r = cut_claims.same_answers given m s s' b b' B B' tells good was new in_area in_new same_pointer same_union same_strong same_placing (renumbered r)

  -- what the rules come to with the names of the Rust
  abbrev ran : Rules → List Req → Sess (Ls (Known Names))
  ran C rs = run (machine C) (table_of C) rs (opened C)

  abbrev Told : Rules → Call → List Req → List ℕ → List ℕ → ℕ → Naming Names → Type 0
  Told C c rs q text x N = told.Tells (length text) (type_call c.session q c.work text x) (single (machine_by N C) (table_of C) (length text) (run (machine_by N C) (table_of C) rs (opened_by N C (no_names C))) x)

  -- calls beside each other follow requests after which the rules go alike
  record Follows (c c' : Call) : Type 0 where
    rs : List Req
    rs' : List Req
    after : After p modes s n c rs
    after' : After p modes s' n' c' rs'
    alike : Alike (ran B rs) (ran B' rs')

  answers : (rs rs' : List Req) → Alike (ran B rs) (ran B' rs') → (room x : ℕ) → HasNumber p modes s n m n' x
      → BothAnswer (cut_claims.SameStates given m s s' b b' B B' tells good was new in_area in_new same_pointer same_union same_strong same_placing) NewNumber
      (single (machine B) (table_of B) room (ran B rs) x) (single (machine B') (table_of B') room (ran B' rs') (new_id m x))
  answers rs rs' h room x k =
      cut_claims.request_alike given m s s' b b' B B' tells good was new in_area in_new same_pointer same_union same_strong same_placing (ran B rs) (ran B' rs') h room x (new_id m x) (number x k)

  follows : {c c' : Call} → Beside p modes s n m n' c c' → Follows c c'
  unfolding run serve
  follows (both_open S S' work work' text text' e e') = record {
    rs = [];
    rs' = [];
    after = after_open S work text e (open_number S s work text p modes ∙ ap (opening_number p s) e ∙ ok);
    after' = after_open S' work' text' e' (open_number S' s' work' text' p modes ∙ ap (opening_number p s') e' ∙ ok');
    alike = cut_claims.opened_alike given m s s' b b' B B' tells good was new in_area in_new same_pointer same_union same_strong same_placing;
  }
  follows (both_ask c c' h text text' e l l' x k) = next (follows h)
    where
      next : Follows c c' → Follows (type_call c.session s c.work text x) (type_call c'.session s' c'.work text' (new_id m x))
      next f = record {
        rs = f.rs ++ (one (length text) x ∷ []);
        rs' = f.rs' ++ (one (length text') (new_id m x) ∷ []);
        after = after_one c f.rs f.after text l.long l.begins x;
        after' = after_one c' f.rs' f.after' text' l'.long l'.begins (new_id m x);
        alike =
            subst (λ (S : Sess (Ls (Known Names))). Alike S (ran B' (f.rs' ++ (one (length text') (new_id m x) ∷ [])))) (sym (run_more (machine B) (table_of B) f.rs (one (length text) x) (opened B)))
            (subst (λ (S : Sess (Ls (Known Names))). Alike (single (machine B) (table_of B) (length text) (ran B f.rs) x).sess S) (sym (run_more (machine B') (table_of B') f.rs' (one (length text') (new_id m x)) (opened B')))
            (subst (λ (room : ℕ). Alike (single (machine B) (table_of B) (length text) (ran B f.rs) x).sess (single (machine B') (table_of B') room (ran B' f.rs') (new_id m x)).sess) e
            (answers f.rs f.rs' f.alike (length text) x k).sessions));
      }

  texts_same : (S S' : Sess (Ls (Known Names))) → Alike S S' → text_of S.mach.pieces ≡ text_of S'.mach.pieces
  texts_same S S' h = pieces_text h.alike.pieces_same

  text_same : (c c' : Call) → Beside p modes s n m n' c c' → SameText c c'
  text_same c c' h =
      let f = follows h in
      let d = (delivered p modes s n).demand2 c f.rs f.after in
      let d' = (delivered p modes s' n').demand2 c' f.rs' f.after' in
      let e = texts_same (ran B f.rs) (ran B' f.rs') f.alike in
      let z = ap (λ (N : Naming Names). run (machine_by N B) (table_of B) f.rs (opened_by N B (no_names B))) names in
      let z' = ap (λ (N : Naming Names). run (machine_by N B') (table_of B') f.rs' (opened_by N B' (no_names B'))) names' in
      record {
        is_open = d.is_open ∙ ap (λ (S : Sess (Ls (Known Names))). S.is_open) z ∙ f.alike.same_open ∙ sym (d'.is_open ∙ ap (λ (S : Sess (Ls (Known Names))). S.is_open) z');
        text_len = d.text_len ∙ ap (λ (S : Sess (Ls (Known Names))). length (text_of S.mach.pieces)) z ∙ ap length e ∙ sym (d'.text_len ∙ ap (λ (S : Sess (Ls (Known Names))). length (text_of S.mach.pieces)) z');
        text = d.text ∙ ap (λ (S : Sess (Ls (Known Names))). text_of S.mach.pieces) z ∙ e ∙ sym (d'.text ∙ ap (λ (S : Sess (Ls (Known Names))). text_of S.mach.pieces) z');
      }

  tells_same : (room room' : ℕ) → room ≡ room' → (c c' : Call) (a a' : Answer (Ls (Known Names))) → a.number ≡ a'.number → text_of a.sess.mach.pieces ≡ text_of a'.sess.mach.pieces
      → told.Tells room c a → told.Tells room' c' a' → SameAnswer c c'
  tells_same room room' r c c' a a' e t q q' = record {
    number = q.number ∙ e ∙ sym q'.number;
    value = q.value ∙ ap length t ∙ sym q'.value;
    begins = q.begins ∙ t ∙ sym q'.begins;
    text = λ no no'.
        q.text (λ z. no (q.number ∙ z)) (λ z. no' (q.number ∙ z))
        ∙ (λ i. t i ++ replicate (r i - length (t i)) 0)
        ∙ sym (q'.text (λ z. no (q.number ∙ e ∙ z)) (λ z. no' (q.number ∙ e ∙ z)));
  }

  answer_same : (c c' : Call) → Beside p modes s n m n' c c' → (text text' : List ℕ) → length text ≡ length text' → Lent c text → Lent c' text' → (x : ℕ) → HasNumber p modes s n m n' x
      → SameAnswer (type_call c.session s c.work text x) (type_call c'.session s' c'.work text' (new_id m x))
  answer_same c c' h text text' r l l' x k =
      let f = follows h in
      let a = answers f.rs f.rs' f.alike (length text) x k in
      let q = subst (Told B c f.rs s text x) names (((delivered p modes s n).demand2 c f.rs f.after).next_type text l x) in
      let q' = subst (Told B' c' f.rs' s' text' (new_id m x)) names' (((delivered p modes s' n').demand2 c' f.rs' f.after').next_type text' l' (new_id m x)) in
      tells_same (length text) (length text') r _ _ _ _ a.same_number (pieces_text a.sessions.alike.pieces_same) q
      (subst (λ (room : ℕ). told.Tells (length text') (type_call c'.session s' c'.work text' (new_id m x)) (single (machine B') (table_of B') room (ran B' f.rs') (new_id m x))) (sym r) q')

  -- THE THEOREM
  pub reopens : Reopens p modes s n m n'
  reopens = record {
    opens = λ S work text e. open_number S s' work text p modes ∙ ap (opening_number p s') e ∙ ok';
    same_text = text_same;
    same_answer = answer_same;
    by_rules = λ rs rs' r. dumps r;
  }

-- of the test that computes what is kept
pub cut_reopens : (p modes : ℕ) → OldNames modes → (s : List ℕ) (n : ℕ) → opening_number p s n ≡ 0 → Bytes s → (given : List ℕ) → length (cut_section (is_kept (types_of s) given) s) ≤ 16777216 → (n' : ℕ)
    → 4 * (16 * opening.types_of (cut_section (is_kept (types_of s) given) s) + 8 * enumerators_of (cut_section (is_kept (types_of s) given) s) + 4096) ≤ n'
    → Reopens p modes s n (is_kept (types_of s) given) n'
cut_reopens p modes old s n ok y given short n' enough = reopens p modes old s n ok y given (is_kept (types_of s) given) (kept_tells (types_of s) given) short n' enough
