-- What a reader wants of the definitions of crates/session_field_at_bit/specs/step/Path.antt and specs/Calls.antt: which refusals there are
-- and what 21 means; that a
-- refused call leaves the path, and that an accepted one writes the entries and nothing else. Assumes nothing.
use Prim.Native.Nat.{ℕ, zero, suc, ◌+◌, ◌*◌, ◌/◌, ◌<◌, ◌≤◌}
use mathlib.Core.Path.{◌≡◌, refl, ap, ◌∙◌, sym, subst}
use mathlib.Core.Bool.{Bool, true, false}
use mathlib.Core.List.{List, [], ◌∷◌}
use mathlib.Core.Logic.{◌⊎◌, inl, inr, ⊎_elim}
use native.Mathlib.Omega.{arith}
use lib.Dec.{leb}
use lib.ListN.{length, drop, get_or}
use lib.Seq.{drop-set-lt}
use borrow.Author.Tests.{lt-ltb, le-ltb, le-leb, lt-leb, ne_eqb}
use Rattle.std.proofs.lemmas.Bool.{cases_lt}
use Rattle.spec_bytes.specs.words.Words.{get_word, put_word}
use Rattle.spec_bytes.proofs.words.Laws.{put_in, put_out, put_length, get_put_same, get_put_other}
use Rattle.spec_c_dumper.specs.rules.Writer.{Ask, got, no, ask_then, checked}
use Rattle.spec_c_dumper.specs.rules.Types.{Member, BtfType, Void, Int, Ptr, Array, Composite, Enum, Enum64, Fwd, Typedef, Mod, Func, Var, Datasec, FuncProto, Float, DeclTag, TypeTag, Btf}
use Rattle.spec_c_dumper.specs.rules.Layout.{size_of, get_size_of, end_of}
use Rattle.spec_c_dumper.proofs.alignment_once.Right.{same_or}
use Rattle.spec_type_table.specs.Table.{btf_of}
use Rattle.spec_session.specs.session.Answers.{Accepted, Refused, number_of, value_of}
use Rattle.spec_session.specs.declared.session.Session.{Session}
use Rattle.spec_session.specs.session.Turns.{is_current, table_for}
use Rattle.session_field_at_bit.specs.step.Path.{Shape, plain, through, array, composite, shape_of, is_composite, behind, Step, stay, enter, field, covers, tried, placed, step_in, full, onward, path_from, some_entry, field_path}
use Rattle.session_field_at_bit.specs.field.Calls.{Found, found_of, put_words, lent_path, field_call}
use Rattle.session_field_at_bit.specs.field.PathFrom.{Uncovered, none, next, PathFrom}
use Rattle.session_field_at_bit.proofs.field.Sound.{got_same, then_got, Tried, entered_or, tried_is, is_covered, by_composite, is_composite_lem, field_plain, field_composite, first_step, sound}

-- ---- the refusals
-- 12 or 16
abbrev Asked : ℕ → Type 0
Asked c = (c ≡ 12) ⊎ (c ≡ 16)

got_no : {A : Type 0} → (a : A) (c : ℕ) → got a ≡ no c → ⊥
got_no a c e = let z : ◌≡◌ {A = ℕ} 0 1 = cc in omega arith

no_same : {A : Type 0} → (c d : ℕ) → ◌≡◌ {A = Ask A} (no c) (no d) → c ≡ d
no_same c d e = cc

-- a question that was refused, or what was made of its answer
then_no : {A B P : Type 0} → (x : Ask A) (f : A → Ask B) (c : ℕ) → ask_then x f ≡ no c → (x ≡ no c → P) → ((a : A) → x ≡ got a → f a ≡ no c → P) → P
unfolding ask_then
then_no (got a) f c e p q = q a refl e
then_no (no d) f c e p q = p (ap no (no_same d c e))

checked_no : (n c : ℕ) → checked n ≡ no c → Asked c
unfolding checked
checked_no n c e =
    ⊎_elim
    (λ l. let f : checked n ≡ got n = rw (lt-ltb n 4294967296 l, checked) in absurd (got_no n c (sym f ∙ e)))
    (λ l. let f : checked n ≡ no 16 = rw (le-ltb n 4294967296 l, checked) in inr (sym (no_same 16 c (sym f ∙ e))))
    (cases_lt n 4294967296)

module _ (B : Btf) where
  type_asked : (f : ℕ → Ask ℕ) → ((id c : ℕ) → f id ≡ no c → Asked c) → (T : BtfType) (c : ℕ) → size_of B f T ≡ no c → Asked c
  unfolding size_of
  type_asked f h Void c e = absurd (got_no 0 c e)
  type_asked f h (Int n bits) c e = absurd (got_no _ c e)
  type_asked f h (Ptr t) c e = absurd (got_no _ c e)
  type_asked f h (Array t k) c e = then_no (f t) (λ s. checked (k * s)) c e (h t c) (λ s q r. checked_no (k * s) c r)
  type_asked f h (Composite s n sz ms) c e = absurd (got_no _ c e)
  type_asked f h (Enum s n sz vs) c e = absurd (got_no _ c e)
  type_asked f h (Enum64 s n sz vs) c e = absurd (got_no _ c e)
  type_asked f h (Fwd u n) c e = absurd (got_no 0 c e)
  type_asked f h (Typedef n t) c e = h t c e
  type_asked f h (Mod q t) c e = h t c e
  type_asked f h (Func n) c e = absurd (got_no 0 c e)
  type_asked f h (Var n) c e = absurd (got_no 0 c e)
  type_asked f h (Datasec n) c e = absurd (got_no 0 c e)
  type_asked f h (FuncProto r ps) c e = absurd (got_no 0 c e)
  type_asked f h (Float n sz) c e = absurd (got_no _ c e)
  type_asked f h (DeclTag w n t k) c e = h t c e
  type_asked f h (TypeTag w n t) c e = h t c e

  size_asked : (left id c : ℕ) → get_size_of left B id ≡ no c → Asked c
  unfolding get_size_of
  size_asked zero id c e = inl (sym (no_same 12 c e))
  size_asked (suc left) id c e = type_asked (get_size_of left B) (size_asked left) (B.type_by_id id) c e

  end_asked : (m : Member) (c : ℕ) → end_of B m ≡ no c → Asked c
  unfolding end_of
  end_asked m c e =
      same_or m.bit_size 0
      (λ z.
      let f : end_of B m ≡ ask_then (get_size_of 512 B m.type_id) (λ s. ask_then (checked (8 * s)) (λ bits. checked (m.bit_offset + bits))) = rw (z, end_of) in
      then_no (get_size_of 512 B m.type_id) (λ s. ask_then (checked (8 * s)) (λ bits. checked (m.bit_offset + bits))) c (sym f ∙ e) (size_asked 512 m.type_id c) (λ s q r.
      then_no (checked (8 * s)) (λ bits. checked (m.bit_offset + bits)) c r (checked_no (8 * s) c) (λ bits u v. checked_no (m.bit_offset + bits) c v)))
      (λ n. let f : end_of B m ≡ checked (m.bit_offset + m.bit_size) = rw (ne_eqb m.bit_size 0 n, end_of) in checked_no (m.bit_offset + m.bit_size) c (sym f ∙ e))

  module _ (bit : ℕ) where
    or_asked : (m : Member) (k : ℕ) (ms : List Member) (c : ℕ) → (tried B bit (k + 1) ms ≡ no c → Asked c) → (q : Bool) → entered_or B bit m k ms q ≡ no c → Asked c
    unfolding entered_or
    or_asked m k ms c h true e = absurd (got_no _ c e)
    or_asked m k ms c h false e = h e

    tried_asked : (ms : List Member) (k c : ℕ) → tried B bit k ms ≡ no c → Asked c
    unfolding tried entered_or
    tried_asked [] k c e = absurd (got_no _ c e)
    tried_asked (m ∷ ms) k c e =
        then_no (end_of B m) (λ end. entered_or B bit m k ms (covers m.bit_offset end bit)) c e (end_asked m c) (λ end q r.
        or_asked m k ms c (tried_asked ms (k + 1) c) (covers m.bit_offset end bit) r)

    step_asked : (S : Shape) (c : ℕ) → step_in B bit S ≡ no c → Asked c
    unfolding step_in
    step_asked plain c e = absurd (got_no _ c e)
    step_asked (through t) c e = absurd (got_no _ c e)
    step_asked (array t) c e = then_no (get_size_of 512 B t) (λ size. got (placed t size bit)) c e (size_asked 512 t c) (λ s q r. absurd (got_no _ c r))
    step_asked (composite ms) c e = tried_asked ms 0 c e

  full_asked : (st : Step) (c : ℕ) → full st ≡ no c → Asked c
  unfolding full
  full_asked stay c e = absurd (got_no _ c e)
  full_asked (enter k t r) c e = inl (sym (no_same 12 c e))
  full_asked (field k) c e = inl (sym (no_same 12 c e))

  onward_asked : (left : ℕ) → ((id bit c : ℕ) → path_from left B id bit ≡ no c → Asked c) → (st : Step) (c : ℕ) → onward (path_from left B) st ≡ no c → Asked c
  unfolding onward
  onward_asked left h stay c e = absurd (got_no _ c e)
  onward_asked left h (enter k t r) c e = then_no (path_from left B t r) (λ p. got (k ∷ p)) c e (h t r c) (λ p q r'. absurd (got_no _ c r'))
  onward_asked left h (field k) c e = absurd (got_no _ c e)

  path_asked : (left id bit c : ℕ) → path_from left B id bit ≡ no c → Asked c
  unfolding path_from
  path_asked zero id bit c e = then_no (step_in B bit (behind 512 B id)) full c e (step_asked bit (behind 512 B id) c) (λ st q r. full_asked st c r)
  path_asked (suc left) id bit c e =
      then_no (step_in B bit (behind 512 B id)) (onward (path_from left B)) c e (step_asked bit (behind 512 B id) c) (λ st q r. onward_asked left (path_asked left) st c r)

  some_asked : (p : List ℕ) (c : ℕ) → some_entry p ≡ no c → (c ≡ 21) × (p ≡ [])
  unfolding some_entry
  some_asked [] c e = (sym (no_same 21 c e), refl)
  some_asked (k ∷ p) c e = absurd (got_no _ c e)

  -- the walk refuses by 12, 16 or 21
  pub walk_refusals : (id bit c : ℕ) → field_path B id bit ≡ no c → (c ≡ 12) ⊎ ((c ≡ 16) ⊎ (c ≡ 21))
  walk_refusals id bit c e =
      by_composite B id bit
      (λ h. inr (inr (no_same c 21 (sym e ∙ field_plain B id bit h))))
      (λ ms s.
      then_no (path_from 512 B id bit) some_entry c (sym (field_composite B id bit (is_composite_lem B id bit ms s)) ∙ e)
      (λ r. ⊎_elim (λ x. inl x) (λ x. inr (inl x)) (path_asked 512 id bit c r))
      (λ p q r. inr (inr (some_asked p c r).0)))

-- ---- 21
-- a composite none of whose members covers the bit
pub record Missed (B : Btf) (id bit : ℕ) : Type 0 where
  pub members : List Member
  pub shaped : shape_of (B.type_by_id id) ≡ composite members
  pub missed : Uncovered B bit members

module _ (B : Btf) (id bit : ℕ) where
  onward_none : (st : Step) → onward (path_from 511 B) st ≡ got [] → st ≡ stay
  unfolding onward
  onward_none stay e = refl
  onward_none (enter k t r) e =
      then_got (path_from 511 B t r) (λ p. got (k ∷ p)) [] e (λ p q r'. let y : k ∷ p ≡ [] = got_same (k ∷ p) [] r' in let z : suc (length p) ≡ 0 = ap length y in absurd (omega arith))
  onward_none (field k) e = let y : k ∷ [] ≡ [] = got_same (k ∷ []) [] e in let z : ◌≡◌ {A = ℕ} 1 0 = ap length y in absurd (omega arith)

  none_covers : (ms : List Member) → shape_of (B.type_by_id id) ≡ composite ms → path_from 512 B id bit ≡ got [] → Uncovered B bit ms
  unfolding path_from Tried
  none_covers ms s e =
      then_got (step_in B bit (behind 512 B id)) (onward (path_from 511 B)) [] e (λ st q r.
      tried_is B bit ms 0 stay (sym (first_step B id bit ms s) ∙ q ∙ ap got (onward_none st r)))

  -- "21 when no member covers that bit, or the id is no composite"
  pub no_member : field_path B id bit ≡ no 21 → (is_composite (shape_of (B.type_by_id id)) ≡ false) ⊎ Missed B id bit
  no_member e =
      by_composite B id bit
      (λ h. inl h)
      (λ ms s.
      then_no (path_from 512 B id bit) some_entry 21 (sym (field_composite B id bit (is_composite_lem B id bit ms s)) ∙ e)
      (λ r. absurd (⊎_elim (λ x. omega arith) (λ x. omega arith) (path_asked B 512 id bit 21 r)))
      (λ p q r. inr (record { members = ms; shaped = s; missed = none_covers ms s (q ∙ ap got (some_asked B p 21 r).1) })))

  pub not_composite : is_composite (shape_of (B.type_by_id id)) ≡ false → field_path B id bit ≡ no 21
  not_composite h = field_plain B id bit h

-- where the end of every member is known, it is 21 for any bit that none covers
pub data Ended (B : Btf) : List Member → Type 0 where
  all : Ended B []
  one : (x : Member) (ms : List Member) (end : ℕ) → end_of B x ≡ got end → Ended B ms → Ended B (x ∷ ms)

module _ (B : Btf) (bit : ℕ) where
  tried_none : (ms : List Member) (k : ℕ) → Ended B ms → Uncovered B bit ms → tried B bit k ms ≡ got stay
  unfolding tried ask_then entered_or
  tried_none _ k all none = refl
  tried_none _ k (one x ms end e h) (next y zs n u) =
      ap (λ (a : Ask ℕ). ask_then a (λ end. entered_or B bit x k ms (covers x.bit_offset end bit))) e
      ∙ ap (entered_or B bit x k ms) (go (covers x.bit_offset end bit) refl)
      ∙ tried_none ms (k + 1) h u
    where
      go : (q : Bool) → covers x.bit_offset end bit ≡ q → covers x.bit_offset end bit ≡ false
      go true c = absurd (n (is_covered B x end e bit c))
      go false c = c

  pub missed_all : (id : ℕ) (m : Missed B id bit) → Ended B m.members → field_path B id bit ≡ no 21
  unfolding path_from ask_then onward some_entry
  missed_all id m h =
      field_composite B id bit (is_composite_lem B id bit m.members m.shaped)
      ∙ ap (λ (a : Ask Step). ask_then (ask_then a (onward (path_from 511 B))) some_entry) (first_step B id bit m.members m.shaped ∙ tried_none m.members 0 h m.missed)

-- ---- the lent path
words_length : (b : List ℕ) (i : ℕ) (vs : List ℕ) → length (put_words b i vs) ≡ length b
unfolding put_words
words_length b i [] = refl
words_length b i (v ∷ vs) = put_length (put_words b (suc i) vs) i v ∙ words_length b (suc i) vs

words_get : (b : List ℕ) (i : ℕ) (vs : List ℕ) (j : ℕ) → i + length vs ≤ length b / 4 → j < length vs → get_word (put_words b i vs) (i + j) ≡ get_or vs j 0
unfolding put_words
words_get b i [] j h l = absurd (omega arith)
words_get b i (v ∷ vs) zero h l =
    let e : i + 0 ≡ i = omega arith in
    let n : length (put_words b (suc i) vs) ≡ length b = words_length b (suc i) vs in
    let s : i < length (put_words b (suc i) vs) / 4 = subst (λ (m : ℕ). i < m / 4) (sym n) (omega arith) in
    ap (get_word (put_word (put_words b (suc i) vs) i v)) e ∙ get_put_same (put_words b (suc i) vs) i v s
words_get b i (v ∷ vs) (suc j) h l =
    let e : i + suc j ≡ suc i + j = omega arith in
    get_put_other (put_words b (suc i) vs) i (i + suc j) v (λ x. absurd (omega arith))
    ∙ ap (get_word (put_words b (suc i) vs)) e
    ∙ words_get b (suc i) vs j (omega arith) (omega arith)

drop_put : (b : List ℕ) (i v m : ℕ) → i * 4 + 4 ≤ m → drop m (put_word b i v) ≡ drop m b
drop_put b i v m h =
    ⊎_elim
    (λ l.
    ap (drop m) (put_in b i v l)
    ∙ drop-set-lt m _ (i * 4 + 3) _ (omega arith)
    ∙ drop-set-lt m _ (i * 4 + 2) _ (omega arith)
    ∙ drop-set-lt m _ (i * 4 + 1) _ (omega arith)
    ∙ drop-set-lt m _ (i * 4) _ (omega arith))
    (λ l. ap (drop m) (put_out b i v l))
    (cases_lt i (length b / 4))

words_rest : (b : List ℕ) (i : ℕ) (vs : List ℕ) (m : ℕ) → (i + length vs) * 4 ≤ m → drop m (put_words b i vs) ≡ drop m b
unfolding put_words
words_rest b i [] m h = refl
words_rest b i (v ∷ vs) m h =
    let o : i * 4 + 4 ≤ m = omega arith in
    let p : (suc i + length vs) * 4 ≤ m = omega arith in
    drop_put (put_words b (suc i) vs) i v m o ∙ words_rest b (suc i) vs m p

-- "every refusal returns length 0 and leaves path, text and session untouched": text and session are not even lent to be written
module _ (path : List ℕ) where
  lent_refused : (X : Ask (List ℕ)) → (number_of (lent_path path X).answer ≡ 0 → ⊥) → ((lent_path path X).path ≡ path) × (value_of (lent_path path X).answer ≡ 0)
  unfolding lent_path found_of number_of value_of
  lent_refused (no c) n = (refl, refl)
  lent_refused (got p) n = go (leb (length p) (length path / 4)) refl
    where
      go : (q : Bool) → leb (length p) (length path / 4) ≡ q → ((lent_path path (got p)).path ≡ path) × (value_of (lent_path path (got p)).answer ≡ 0)
      go true e = let f : lent_path path (got p) ≡ found_of (Accepted (length p)) (put_words path 0 p) = rw (e, lent_path) in absurd (n (ap (λ (x : Found). number_of x.answer) f))
      go false e = let f : lent_path path (got p) ≡ found_of (Refused 17 0) path = rw (e, lent_path) in (ap (λ (x : Found). x.path) f, ap (λ (x : Found). value_of x.answer) f)

-- what an accepted call leaves: a path and its words
pub record Written (B : Btf) (id bit : ℕ) (before after : List ℕ) (n : ℕ) : Type 0 where
  pub path : List ℕ
  pub found : field_path B id bit ≡ got path
  pub is_path : PathFrom B id bit path
  pub long : n ≡ length path
  pub some : 0 < n
  pub most : n ≤ 512
  pub room : n ≤ length before / 4
  pub same_length : length after ≡ length before
  pub entries : (i : ℕ) → i < n → get_word after i ≡ get_or path i 0
  pub rest_stays : drop (n * 4) after ≡ drop (n * 4) before

module _ (B : Btf) (id bit : ℕ) (path : List ℕ) where
  lent_found : (X : Ask (List ℕ)) → field_path B id bit ≡ X → number_of (lent_path path X).answer ≡ 0 → Written B id bit path (lent_path path X).path (value_of (lent_path path X).answer)
  unfolding lent_path found_of number_of value_of
  lent_found (no c) e h = absurd (⊎_elim (λ x. omega arith) (λ x. ⊎_elim (λ y. omega arith) (λ y. omega arith) x) (walk_refusals B id bit c e))
  lent_found (got p) e h =
      ⊎_elim
      (λ l. let f : lent_path path (got p) ≡ found_of (Refused 17 0) path = rw (lt-leb (length p) (length path / 4) l, lent_path) in let y : ◌≡◌ {A = ℕ} 17 0 = sym (ap (λ (x : Found). number_of x.answer) f) ∙ h in absurd (omega arith))
      (λ l.
      let f : lent_path path (got p) ≡ found_of (Accepted (length p)) (put_words path 0 p) = rw (le-leb (length p) (length path / 4) l, lent_path) in
      let s : PathFrom B id bit p × ((0 < length p) × (length p ≤ 512)) = sound B id bit p e in
      let z : 0 + length p ≤ length path / 4 = omega arith in
      let w : (0 + length p) * 4 ≤ length p * 4 = omega arith in
      subst (λ (x : Found). Written B id bit path x.path (value_of x.answer)) (sym f) (record {
        path = p;
        found = e;
        is_path = s.0;
        long = refl;
        some = s.1.0;
        most = s.1.1;
        room = l;
        same_length = words_length path 0 p;
        entries = λ i k. let o : 0 + i ≡ i = omega arith in ap (get_word (put_words path 0 p)) (sym o) ∙ words_get path 0 p i z k;
        rest_stays = words_rest path 0 p (length p * 4) w;
      }))
      (cases_lt (length path / 4) (length p))

-- "17, tested last, a lent path too short for it": a path was found
pub record Short (B : Btf) (id bit : ℕ) (lent : List ℕ) : Type 0 where
  pub path : List ℕ
  pub found : field_path B id bit ≡ got path
  pub short : length lent / 4 < length path

module _ (B : Btf) (id bit : ℕ) (path : List ℕ) where
  lent_short : (X : Ask (List ℕ)) → field_path B id bit ≡ X → number_of (lent_path path X).answer ≡ 17 → Short B id bit path
  unfolding lent_path found_of number_of
  lent_short (no c) e h = absurd (⊎_elim (λ x. omega arith) (λ x. ⊎_elim (λ y. omega arith) (λ y. omega arith) x) (walk_refusals B id bit c e))
  lent_short (got p) e h =
      ⊎_elim
      (λ l. record { path = p; found = e; short = l })
      (λ l. let f : lent_path path (got p) ≡ found_of (Accepted (length p)) (put_words path 0 p) = rw (le-leb (length p) (length path / 4) l, lent_path) in let y : ◌≡◌ {A = ℕ} 0 17 = sym (ap (λ (x : Found). number_of x.answer) f) ∙ h in absurd (omega arith))
      (cases_lt (length path / 4) (length p))

  pub short_lent : Short B id bit path → lent_path path (field_path B id bit) ≡ found_of (Refused 17 0) path
  unfolding lent_path
  short_lent h = ap (lent_path path) h.found ∙ rw (lt-leb (length h.path) (length path / 4) h.short, lent_path)

-- ---- the call
module _ (s : Session) (section w path : List ℕ) (id bit : ℕ) where
  -- 11 exactly where the session is not current, whatever else holds
  pub call_not_current : is_current s (length section) (length w) s.text_len ≡ false → field_call s section w path id bit ≡ found_of (Refused 11 0) path
  unfolding field_call
  call_not_current h = rw (h, field_call)

  module _ (h : is_current s (length section) (length w) s.text_len ≡ true) where
    pub call_not_below : s.types ≤ id → field_call s section w path id bit ≡ found_of (Refused 10 0) path
    unfolding field_call
    call_not_below l = rw (h, field_call, le-ltb id s.types l)

    pub call_walks : id < s.types → field_call s section w path id bit ≡ lent_path path (field_path (btf_of (table_for s section) section w) id bit)
    unfolding field_call
    call_walks l = rw (h, field_call, lt-ltb id s.types l)

  cases : (P : Found → Type 0) → P (found_of (Refused 11 0) path) → P (found_of (Refused 10 0) path) → P (lent_path path (field_path (btf_of (table_for s section) section w) id bit)) → P (field_call s section w path id bit)
  cases P a b c = go (is_current s (length section) (length w) s.text_len) refl
    where
      go : (q : Bool) → is_current s (length section) (length w) s.text_len ≡ q → P (field_call s section w path id bit)
      go false e = subst P (sym (call_not_current e)) a
      go true e = ⊎_elim (λ l. subst P (sym (call_walks e l)) c) (λ l. subst P (sym (call_not_below e l)) b) (cases_lt id s.types)

  -- "every refusal returns length 0 and leaves path, text and session untouched"
  pub refused_leaves : (number_of (field_call s section w path id bit).answer ≡ 0 → ⊥) → ((field_call s section w path id bit).path ≡ path) × (value_of (field_call s section w path id bit).answer ≡ 0)
  unfolding found_of number_of value_of
  refused_leaves =
      cases (λ (x : Found). (number_of x.answer ≡ 0 → ⊥) → (x.path ≡ path) × (value_of x.answer ≡ 0))
      (λ n. (refl, refl))
      (λ n. (refl, refl))
      (lent_refused path (field_path (btf_of (table_for s section) section w) id bit))

  -- number 0: the path, its length and its words; "the rest of the lent path stays"
  pub accepted_writes : number_of (field_call s section w path id bit).answer ≡ 0 → Written (btf_of (table_for s section) section w) id bit path (field_call s section w path id bit).path (value_of (field_call s section w path id bit).answer)
  unfolding found_of number_of value_of
  accepted_writes =
      cases (λ (x : Found). number_of x.answer ≡ 0 → Written (btf_of (table_for s section) section w) id bit path x.path (value_of x.answer))
      (λ h. let y : ◌≡◌ {A = ℕ} 11 0 = h in absurd (omega arith))
      (λ h. let y : ◌≡◌ {A = ℕ} 10 0 = h in absurd (omega arith))
      (lent_found (btf_of (table_for s section) section w) id bit path (field_path (btf_of (table_for s section) section w) id bit) refl)

  -- 17 exactly where the walk found a path and the lent one is too short for it
  pub seventeen : number_of (field_call s section w path id bit).answer ≡ 17 → Short (btf_of (table_for s section) section w) id bit path
  unfolding found_of number_of
  seventeen =
      cases (λ (x : Found). number_of x.answer ≡ 17 → Short (btf_of (table_for s section) section w) id bit path)
      (λ h. let y : ◌≡◌ {A = ℕ} 11 17 = h in absurd (omega arith))
      (λ h. let y : ◌≡◌ {A = ℕ} 10 17 = h in absurd (omega arith))
      (lent_short (btf_of (table_for s section) section w) id bit path (field_path (btf_of (table_for s section) section w) id bit) refl)

  pub call_short : is_current s (length section) (length w) s.text_len ≡ true → id < s.types → Short (btf_of (table_for s section) section w) id bit path → field_call s section w path id bit ≡ found_of (Refused 17 0) path
  call_short h l x = call_walks h l ∙ short_lent (btf_of (table_for s section) section w) id bit path x
