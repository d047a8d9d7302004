-- A session by the remembering way in the work: the same numbers, lengths and text as by the plain way. Assumes nothing.
use Prim.Native.Nat.{ℕ, ◌+◌, ◌-◌, ◌*◌, ◌/◌, ◌%◌, ◌<◌, ◌≤◌}
use native.Mathlib.Omega.{arith}
use mathlib.Core.Path.{◌≡◌, refl, ap, ap₂, ◌∙◌, sym, subst}
use mathlib.Core.Bool.{Bool, true, false}
use mathlib.Core.List.{List, []}
use mathlib.Core.Logic.{⊎_elim, ◌≢◌}
use lib.ListN.{length}
use lib.Dec.{ltb, leb, eqb}
use Rattle.std.proofs.lemmas.Bool.{cases_lt}
use Rattle.spec_bytes.specs.words.Words.{get_word, put_word, one_more}
use Rattle.spec_bytes.proofs.words.Laws.{put_out, put_length, get_put_same, get_put_other}
use Rattle.spec_c_dumper.specs.rules.Writer.{Ask}
use Rattle.spec_c_dumper.specs.rules.Layout.{bit_padding}
use Rattle.spec_c_dumper.specs.rules.Placing.{body_packed}
use Rattle.spec_c_dumper.specs.rules.Machine.{Req}
use Rattle.spec_c_dumper.specs.rules.Names.{Resolved}
use Rattle.spec_c_dumper.proofs.rules.Keeps.{any_name, any_value}
use Rattle.spec_c_dumper.proofs.rules.Related.{RelResolved, RelNaming}
use Rattle.spec_c_dumper.specs.rules.Types.{Void, table_of, Btf as Rules}
use Rattle.spec_type_table.specs.declared.types.TypeTable.{TypeTable}
use Rattle.spec_type_table.specs.Cells.{get_field, put_field, place_of, class_p, count_p, count_after, count_raised, with_more}
use Rattle.spec_type_table.specs.Numbers.{head_p, next_p, taken_p, taken_at, number_over, number_at}
use Rattle.spec_type_table.specs.Table.{type_version_in, value_version_in, enumerator_of, work_naming}
use Rattle.spec_type_table.proofs.Laws.{place_type, place_enum}
use Rattle.spec_type_table.proofs.Frame.{enumerator_same}
use Rattle.btf_open_names.proofs.numbers.Lists.{taken_same}
use Rattle.spec_c_dumper.specs.alignment_once.Once.{Remembered, Known, Keep, Lawful, Once, found, refused, align_once, Right, member_count, members_to, paid_to}
use Rattle.spec_c_dumper.specs.alignment_once.Steps.{padding_once, body_once}
use Rattle.spec_c_dumper.specs.alignment_once.Writers.{dumped_once, after_once}
use Rattle.spec_c_dumper.proofs.alignment_once.Right.{same_or}
use Rattle.spec_c_dumper.proofs.alignment_once.Counted.{paid_most}
use Rattle.spec_c_dumper.proofs.alignment_once.Fair.{After, Honest, Fair, fair_body, fair_padding}
use Rattle.spec_c_dumper.proofs.alignment_once.Session.{Kept, Sound, same_session, session_pair}
use Rattle.spec_c_dumper.specs.needs.Needs.{WF}
use Rattle.spec_c_dumper.specs.needs.Session.{opened_by, dumped}
use Rattle.btf_layout.specs.remembered.Words.{seen_word, decoded, coded, with_visits as visited, remembered, work_keep}
use Rattle.btf_layout.proofs.remembered.Lawful.{HoldsTypes, FitsWord, remembered_length, work_lawful, tells_fits}
use Rattle.btf_layout.proofs.remembered.Visits.{Counted, Holds, align_holds}
use Rattle.btf_layout.specs.asked.Asked.{work_asks}
use Rattle.proof_demands.specs.alignment_memory.Work.{Agree}

-- ---- stores at the same place
module _ (w u : List ℕ) (a : Agree w u) where
  agree_put : (i v : ℕ) → Agree (put_word w i v) (put_word u i v)
  agree_put i v = record {
    long = put_length w i v ∙ a.long ∙ sym (put_length u i v);
    words = λ k n m. same_or k i
        (λ e. subst (λ (x : ℕ). get_word (put_word w i v) x ≡ get_word (put_word u i v) x) (sym e) (here (rw e at n) (rw e at m)))
        (λ ne. get_put_other w i k v ne ∙ a.words k n m ∙ sym (get_put_other u i k v ne));
  }
    where
      here : (i % 16 ≡ 15 → ⊥) → (i ≡ 2 → ⊥) → get_word (put_word w i v) i ≡ get_word (put_word u i v) i
      here n m =
          ⊎_elim
          (λ l. let l' : i < length u / 4 = subst (λ (x : ℕ). i < x / 4) a.long l in get_put_same w i v l ∙ sym (get_put_same u i v l'))
          (λ l. let l' : length u / 4 ≤ i = subst (λ (x : ℕ). x / 4 ≤ i) a.long l in ap (λ (x : List ℕ). get_word x i) (put_out w i v l) ∙ a.words i n m ∙ ap (λ (x : List ℕ). get_word x i) (sym (put_out u i v l')))
          (cases_lt i (length w / 4))

  agree_more : (i : ℕ) → (i % 16 ≡ 15 → ⊥) → (i ≡ 2 → ⊥) → Agree (with_more w i) (with_more u i)
  unfolding with_more
  agree_more i n m =
      subst (λ (x : ℕ). Agree (elim (ltb x 4294967295) as (λ (b : Bool). List ℕ) [ true ↦ put_word w i (x + 1) | false ↦ w ]) (with_more u i)) (sym (a.words i n m)) (by (ltb (get_word u i) 4294967295))
    where
      by : (b : Bool) → Agree (elim b as (λ (b : Bool). List ℕ) [ true ↦ put_word w i (get_word u i + 1) | false ↦ w ]) (elim b as (λ (b : Bool). List ℕ) [ true ↦ put_word u i (get_word u i + 1) | false ↦ u ])
      by true = agree_put i (get_word u i + 1)
      by false = a

-- ---- no word of a name, and none of a list of taken numbers, is one of the memory's
abbrev pub Off : ℕ → Type 0
Off i = (i % 16 ≡ 15 → ⊥) × (i ≡ 2 → ⊥)

module _ (types : ℕ) where
  pub place_off : (f g : ℕ) → f < 15 → f ≢ 2 → g < 7 → g ≢ 2 → (h : ℕ) → Off (place_of types f g h)
  place_off f g l nf m ng h =
      ⊎_elim
      (λ k. let e : place_of types f g h ≡ h * 16 + f = sym (place_type types f g h k) in (λ q. omega (arith, e, q, l), λ q. nf (omega (arith, e, q, l))))
      (λ k. let e : place_of types f g h ≡ types * 16 + (h - types) * 8 + g = sym (place_enum types f g h k) in (λ q. omega (arith, e, q, m), λ q. ng (omega (arith, e, q, m))))
      (cases_lt h types)

  class_apart : (h : ℕ) → Off (class_p types h)
  class_apart = place_off 5 1 (omega arith) (λ q. omega arith) (omega arith) (λ q. omega arith)

  -- word 2 of the first enumerator is word 2 of void only where there is no type
  pub count_apart : 1 ≤ types → (h : ℕ) → Off (count_p types h)
  count_apart some h =
      ⊎_elim
      (λ l. let e : count_p types h ≡ h * 16 + 6 = sym (place_type types 6 2 h l) in (λ q. omega (arith, e, q), λ q. omega (arith, e, q)))
      (λ l. let e : count_p types h ≡ types * 16 + (h - types) * 8 + 2 = sym (place_enum types 6 2 h l) in (λ q. omega (arith, e, q), λ q. omega (arith, e, q, some)))
      (cases_lt h types)

-- ---- what the memory reads
pub record Memory (w₂ w : List ℕ) : Type 0 where
  pub long : length w₂ ≡ length w
  pub aligned : (j : ℕ) → get_field w₂ j 15 ≡ get_field w j 15
  pub count : get_field w₂ 0 2 ≡ get_field w 0 2

pub memory_put : (w : List ℕ) (i v : ℕ) → (i % 16 ≡ 15 → ⊥) → (i ≡ 2 → ⊥) → Memory (put_word w i v) w
memory_put w i v n m = record {
  long = put_length w i v;
  aligned = λ j. get_put_other w i (j * 16 + 15) v (λ e. n (omega (arith, e)));
  count = get_put_other w i (0 * 16 + 2) v (λ e. m (sym e));
}

memory_same : (w : List ℕ) → Memory w w
memory_same w = record { long = refl; aligned = λ j. refl; count = refl }

memory_then : (a b c : List ℕ) → Memory a b → Memory b c → Memory a c
memory_then a b c h k = record { long = h.long ∙ k.long; aligned = λ j. h.aligned j ∙ k.aligned j; count = h.count ∙ k.count }

memory_more : (w : List ℕ) (i : ℕ) → (i % 16 ≡ 15 → ⊥) → (i ≡ 2 → ⊥) → Memory (with_more w i) w
unfolding with_more
memory_more w i n m = by (ltb (get_word w i) 4294967295)
  where
    by : (b : Bool) → Memory (elim b as (λ (b : Bool). List ℕ) [ true ↦ put_word w i (get_word w i + 1) | false ↦ w ]) w
    by true = memory_put w i (get_word w i + 1) n m
    by false = memory_same w

module _ (types : ℕ) (some : 1 ≤ types) (w : List ℕ) (h : ℕ) where
  memory_counted : Memory (count_raised (class_p types) (count_p types) w h) w
  unfolding count_raised
  memory_counted = let c = count_apart types some (get_word w (class_p types h)) in memory_more w (count_p types (get_word w (class_p types h))) c.0 c.1

  module _ (u : List ℕ) (a : Agree w u) where
    class_same : get_word w (class_p types h) ≡ get_word u (class_p types h)
    class_same = let c = class_apart types h in a.words (class_p types h) c.0 c.1

    count_same : count_after (class_p types) (count_p types) w h ≡ count_after (class_p types) (count_p types) u h
    unfolding count_after
    count_same =
        let c = count_apart types some (get_word u (class_p types h)) in
        ap (λ (x : ℕ). one_more (get_word w (count_p types x))) class_same ∙ ap one_more (a.words (count_p types (get_word u (class_p types h))) c.0 c.1)

    -- the lists of taken numbers are the same
    number_same : number_at types w h ≡ number_at types u h
    unfolding number_at
    number_same =
        let n = place_off types 8 4 (omega arith) (λ q. omega arith) (omega arith) (λ q. omega arith) in
        let t = place_off types 14 6 (omega arith) (λ q. omega arith) (omega arith) (λ q. omega arith) in
        let c = place_off types 7 3 (omega arith) (λ q. omega arith) (omega arith) (λ q. omega arith) (get_word u (class_p types h)) in
        ap₂ (λ (l : List ℕ) (k : ℕ). number_over l k)
        (ap (taken_at types w) class_same
        ∙ taken_same types w u (λ x. a.words (next_p types x) (n x).0 (n x).1) (λ x. a.words (taken_p types x) (t x).0 (t x).1) (get_word u (class_p types h)) (a.words (head_p types (get_word u (class_p types h))) c.0 c.1))
        count_same

    counted_agree : Agree (count_raised (class_p types) (count_p types) w h) (count_raised (class_p types) (count_p types) u h)
    unfolding count_raised
    counted_agree =
        let c = count_apart types some (get_word u (class_p types h)) in
        subst (λ (x : ℕ). Agree (with_more w (count_p types x)) (with_more u (count_p types (get_word u (class_p types h))))) (sym class_same) (agree_more w u a (count_p types (get_word u (class_p types h))) c.0 c.1)

remembered_other : (types id v n : ℕ) (w : List ℕ) (i : ℕ) → (i % 16 ≡ 15 → ⊥) → (i ≡ 2 → ⊥) → get_word (remembered types id v n w) i ≡ get_word w i
unfolding remembered visited
remembered_other types id v n w i off_align off_visits = by (eqb v 0) (leb types id)
  where
    by : (p q : Bool) → get_word (elim p as (λ (x : Bool). List ℕ) [ true ↦ w | false ↦ elim q as (λ (x : Bool). List ℕ) [ true ↦ w | false ↦ put_field (visited n w) id 15 v ] ]) i ≡ get_word w i
    by true q = refl
    by false true = refl
    by false false = get_put_other (visited n w) (id * 16 + 15) i v (λ e. off_align (omega (arith, e))) ∙ get_put_other w (0 * 16 + 2) i _ (λ e. off_visits e)

-- ---- names and memory in one work
module _ (b : TypeTable) (some : 1 ≤ b.types) (B : Rules) (small : B.ptr_sz ≤ 15) (wf : WF (table_of B)) (ends : (id : ℕ) → B.type_cnt ≤ id → B.type_by_id id ≡ Void) (few : B.type_cnt + members_to B B.type_cnt < 4294967296) where
  abbrev types : ℕ
  types = B.type_cnt

  abbrev K : Keep (List ℕ)
  K = work_keep types B

  abbrev pub Took : List ℕ → Type 0
  Took w = Counted types B small wf.below few w

  -- the plain way's work has the same words, but for the memory; which is right, with its visits in word 2 of void
  abbrev pub InWork : List ℕ → List ℕ → Type 0
  InWork w u = Agree w u × Right K B w × Took w

  recall_same : (w w₂ : List ℕ) → Memory w₂ w → (id : ℕ) → K.recall w₂ id ≡ K.recall w id
  unfolding work_keep seen_word
  recall_same w w₂ h id = ap (λ (x : ℕ). decoded (elim (ltb id types) as (λ (b : Bool). ℕ) [ true ↦ x | false ↦ 0 ])) (h.aligned id)

  pub kept_memory : (w w₂ : List ℕ) → Memory w₂ w → Right K B w → Took w → Right K B w₂ × Took w₂
  kept_memory w w₂ h r t = (
    λ id s e. r id s (sym (recall_same w w₂ h id) ∙ e),
    (subst (λ (x : ℕ). types * 16 ≤ x / 4) (sym h.long) t.0, h.count ∙ t.1 ∙ ap (λ (f : ℕ → Known). paid_to B f types) (λ i id. sym (recall_same w w₂ h id) i)),
  )

  -- ---- naming
  module _ (w u : List ℕ) (p : InWork w u) where
    with_memory : (w₂ u₂ : List ℕ) → Agree w₂ u₂ → Memory w₂ w → InWork w₂ u₂
    with_memory w₂ u₂ a h = let k = kept_memory w w₂ h p.1 p.2 in (a, k.0, k.1)

    abbrev given : ℕ → ℕ
    given h = number_at b.types w h

    abbrev after : List ℕ → ℕ → List ℕ
    after x h = count_raised (class_p b.types) (count_p b.types) x h

    typed : (id : ℕ) → RelResolved InWork (type_version_in b.types id w) (type_version_in b.types id u)
    unfolding type_version_in
    typed id =
        subst (λ (y : ℕ). RelResolved InWork (elim (eqb y 0) as (λ z. Resolved (List ℕ)) [ false ↦ record { passes = false; version = y; names = w } | true ↦ record { passes = false; version = given id; names = put_field (after w id) id 4 (given id) } ]) (type_version_in b.types id u))
        (sym (p.0.words (id * 16 + 4) (λ q. omega (arith, q)) (λ q. omega (arith, q)))) (by (eqb (get_field u id 4) 0))
      where
        named : Agree (put_field (after w id) id 4 (given id)) (put_field (after u id) id 4 (number_at b.types u id))
        named =
            subst (λ (x : ℕ). Agree (put_field (after w id) id 4 x) (put_field (after u id) id 4 (number_at b.types u id))) (sym (number_same b.types some w id u p.0))
            (agree_put (after w id) (after u id) (counted_agree b.types some w id u p.0) (id * 16 + 4) (number_at b.types u id))

        by : (t : Bool) → RelResolved InWork (elim t as (λ z. Resolved (List ℕ)) [ false ↦ record { passes = false; version = get_field u id 4; names = w } | true ↦ record { passes = false; version = given id; names = put_field (after w id) id 4 (given id) } ])
            (elim t as (λ z. Resolved (List ℕ)) [ false ↦ record { passes = false; version = get_field u id 4; names = u } | true ↦ record { passes = false; version = number_at b.types u id; names = put_field (after u id) id 4 (number_at b.types u id) } ])
        by false = (refl, refl, p)
        by true = (
          refl,
          number_same b.types some w id u p.0,
          with_memory (put_field (after w id) id 4 (given id)) (put_field (after u id) id 4 (number_at b.types u id)) named
              (memory_then (put_field (after w id) id 4 (given id)) (after w id) w (memory_put (after w id) (id * 16 + 4) (given id) (λ q. omega (arith, q)) (λ q. omega (arith, q))) (memory_counted b.types some w id)),
        )

    valued : (e : ℕ) → RelResolved InWork (value_version_in b.types e w) (value_version_in b.types e u)
    unfolding value_version_in
    valued e = by (ltb (b.types + e) 4294967296)
      where
        by : (t : Bool) → RelResolved InWork (elim t as (λ z. Resolved (List ℕ)) [ true ↦ record { passes = false; version = given (b.types + e); names = after w (b.types + e) } | false ↦ record { passes = false; version = 0; names = w } ])
            (elim t as (λ z. Resolved (List ℕ)) [ true ↦ record { passes = false; version = number_at b.types u (b.types + e); names = after u (b.types + e) } | false ↦ record { passes = false; version = 0; names = u } ])
        by true = (refl, number_same b.types some w (b.types + e) u p.0, with_memory (after w (b.types + e)) (after u (b.types + e)) (counted_agree b.types some w (b.types + e) u p.0) (memory_counted b.types some w (b.types + e)))
        by false = (refl, refl, p)

    enumerated : (id k : ℕ) → RelResolved InWork (value_version_in b.types (enumerator_of w id k) w) (value_version_in b.types (enumerator_of u id k) u)
    enumerated id k =
        subst (λ (x : ℕ). RelResolved InWork (value_version_in b.types x w) (value_version_in b.types (enumerator_of u id k) u))
        (sym (enumerator_same w u id k (p.0.words (id * 16 + 12) (λ q. omega (arith, q)) (λ q. omega (arith, q))))) (valued (enumerator_of u id k))

  work_named : RelNaming InWork any_name any_value (work_naming b) (work_naming b)
  unfolding work_naming
  work_named = record { rel_type = λ space id name fit e w u p. typed w u p id; rel_value = λ id k name fit w u p. enumerated w u p id k; rel_leaving = λ h x q w u p. p }

  -- ---- questions
  agree_remember : (w u : List ℕ) → Agree w u → (id : ℕ) (s : Remembered) → Agree (K.remember id s w) u
  unfolding work_keep
  agree_remember w u a id s = record { long = remembered_length types id (coded s) (member_count (B.type_by_id id)) w ∙ a.long; words = λ i n m. other_word i n m ∙ a.words i n m }
    where
      other_word : (i : ℕ) → (i % 16 ≡ 15 → ⊥) → (i ≡ 2 → ⊥) → get_word (remembered types id (coded s) (member_count (B.type_by_id id)) w) i ≡ get_word w i
      other_word i n m = remembered_other types id (coded s) (member_count (B.type_by_id id)) w i n m

  abbrev Good : List ℕ → List ℕ → Type 0
  Good u w = HoldsTypes types w × Agree w u

  law : (u : List ℕ) → Lawful K types (Good u) FitsWord
  law u = record {
    kept = (work_lawful types B).kept;
    other = (work_lawful types B).other;
    same = λ id s w f g l. (work_lawful types B).same id s w f g.0 l;
    good = λ id s w g. ((work_lawful types B).good id s w g.0, agree_remember w u g.1 id s);
  }

  abbrev Also : List ℕ → Type 0
  Also w = get_field w 0 2 ≡ paid_to B (K.recall w) types

  keeps : (u : List ℕ) (left id : ℕ) → left ≤ 512 → (m : List ℕ) (k : ℕ) → id < types → Right K B m → Good u m → Also m → After Also (align_once K left B id m k)
  keeps u left id c m k l r g a = by (align_once K left B id m k) (align_holds types B small wf.below few left id c m k l r (g.0, a))
    where
      by : (x : Once (List ℕ) Remembered) → Holds types B small wf.below few x → After Also x
      by (found s m' k') h = h.1
      by (refused e m' k') h = tt

  fair_kept : {A : Type 0} (u : List ℕ) (x : Ask A) (r : Once (List ℕ) A) → Fair K B types (Good u) FitsWord (law u) (tells_fits B small) wf.below Also (keeps u) x r
      → Kept (work_asks types B) (work_naming b) (work_naming b) B wf ends InWork u x r
  fair_kept u x (found a m k) f = (f.0, (f.1.good.1, f.1.right, (f.1.good.0, f.1.also)))
  fair_kept u x (refused c m k) f = f

  honest : (w u : List ℕ) → InWork w u → Honest K B types (Good u) FitsWord (law u) (tells_fits B small) wf.below Also (keeps u) w (get_field w 0 2)
  honest w u p = record { right = p.1; good = (p.2.0, p.0); visits = p.2.1; also = p.2.1 }

  pub work_sound : Sound (work_asks types B) (work_naming b) (work_naming b) B wf ends InWork
  work_sound = record {
    named = work_named;
    bodies = λ id s name sz ms e l w u p.
        fair_kept u (body_packed B s sz ms) (body_once K B s id sz ms w (get_field w 0 2)) (fair_body K B types (Good u) FitsWord (law u) (tells_fits B small) wf.below Also (keeps u) id l s name sz ms e w (get_field w 0 2) (honest w u p));
    pads = λ offset x packed l w u p.
        fair_kept u (bit_padding B offset x packed) (padding_once K B offset x packed w (get_field w 0 2)) (fair_padding K B types (Good u) FitsWord (law u) (tells_fits B small) wf.below Also (keeps u) offset x packed l w (get_field w 0 2) (honest w u p));
  }

  -- from a work in which nothing is remembered
  module _ (w : List ℕ) (p : InWork w w) (rs : List Req) where
    -- the same numbers, lengths and text
    pub work_session : dumped_once (work_asks types B) (work_naming b) B [] rs (opened_by (work_naming b) B w) ≡ dumped (work_naming b) B [] rs (opened_by (work_naming b) B w)
    work_session = same_session (work_asks types B) (work_naming b) (work_naming b) B wf ends InWork work_sound w w p rs

    -- "at most types plus members", in word 2 of void
    pub work_visits : get_field (after_once (work_asks types B) (work_naming b) B rs (opened_by (work_naming b) B w)).mach.known.names 0 2 ≤ types + members_to B types
    work_visits =
        let q = (session_pair (work_asks types B) (work_naming b) (work_naming b) B wf ends InWork work_sound w w p rs).1.2.1 in
        subst (λ (x : ℕ). x ≤ types + members_to B types) (sym q) (paid_most B (K.recall (after_once (work_asks types B) (work_naming b) B rs (opened_by (work_naming b) B w)).mach.known.names) types)
