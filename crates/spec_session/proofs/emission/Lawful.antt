-- The machine in the lent slices, with the list of tags beside it, is lawful in the sense of the theory, for n types: the work has at least 64
-- bytes a type, and the place lies in the text. Assumes nothing.
use Prim.Native.Nat.{ℕ, zero, suc, ◌+◌, ◌*◌, ◌-◌, ◌<◌, ◌≤◌}
use mathlib.Core.Path.{◌≡◌, refl, ap, ◌∙◌, sym, subst}
use mathlib.Core.List.{List, [], ◌∷◌, ◌++◌}
use mathlib.Core.Bool.{Bool, true, false}
use mathlib.Core.Logic.{◌⊎◌, inl, inr, ⊎_elim, ◌≢◌}
use native.Mathlib.Omega.{arith}
use lib.Dec.{eqb, ltb}
use lib.ListN.{length}
use Rattle.std.proofs.lemmas.Bool.{cases_lt}
use Rattle.std.specs.Prelude.{Ok}
use Rattle.spec_bytes.specs.text.Text.{Text, whole, cut, bytes}
use Rattle.spec_bytes.specs.text.Placed.{Out as TextOut, written, put_text}
use Rattle.spec_bytes.specs.words.Words.{get_word}
use Rattle.spec_bytes.proofs.words.Laws.{get_put_same, get_put_other, put_length}
use Rattle.spec_bytes.proofs.text.TextLaws.{put_fits, put_none, place_length}
use Rattle.spec_c_dumper.specs.rules.Order.{Table, Lawful, Framed}
use Rattle.spec_c_dumper.specs.rules.Machine.{Out, wrote, stuck, Machine, Fine, OHolds, ogood, obad, Same, OrderKeeps, Defines, MLawful}
use Rattle.spec_c_dumper.specs.rules.Types.{Name, BtfType, Btf as Rules}
use Rattle.spec_c_dumper.specs.rules.Names.{Space, Resolved}
use Rattle.spec_c_dumper.specs.rules.Writer.{said_text, said_names, Writer}
use Rattle.spec_c_dumper.specs.rules.Place.{with_names, none_held}
use Rattle.spec_c_dumper.specs.alignment_once.Writers.{definition_once, forward_once}
use Rattle.btf_layout.specs.asked.Asked.{work_asks}
use Rattle.spec_c_dumper.proofs.rules.Closed.{Code}
use Rattle.spec_c_dumper.proofs.rules.Keeps.{Keeps}
use Rattle.btf_layout.proofs.refusals.InWork.{definition_keeps as def_keeps, forward_keeps as fwd_keeps, definition_tells, forward_tells}
use Rattle.spec_c_dumper.proofs.rules.Refusals.{Told, told, cut_by, Tells}
use Rattle.spec_type_table.specs.declared.types.TypeTable.{TypeTable}
use Rattle.spec_type_table.specs.Cells.{get_field, put_field, class_p, count_p, count_raised}
use Rattle.spec_type_table.specs.Numbers.{number_at}
use Rattle.spec_type_table.specs.Table.{from, work_naming, type_version_in, value_version_in, enumerator_of}
use Rattle.spec_type_table.proofs.Laws.{place_type, place_enum}
use Rattle.spec_type_table.proofs.Frame.{field_other, counted_other, more_length}
use Rattle.c_dumper_dependency_order.specs.order_state.Work.{Marks, mark_of, code, work_store}
use Rattle.c_dumper_dependency_order.proofs.order_state.Lawful.{work_lawful, mark_code}
use Rattle.spec_session.proofs.emission.Laws.{line_is}
use Rattle.spec_session.specs.emission.Slices.{Slices, marks_in, slices_store, emptied, slices_of, line_in, work_machine}
use Rattle.spec_c_dumper.specs.rules.Request.{dumped}
use Rattle.spec_session.specs.emission.Tagged.{Tagged, tagged, tagged_machine}
use Rattle.spec_c_dumper.proofs.rules.Maps.{omap, StoreMap, MachineMap, map_dumped}

-- ---- what names leave alone: the length, and words 1 and 13 of the cells
abbrev words : ℕ → List ℕ → ℕ → ℕ
words f w k = get_field w k f

module _ {Z : Type 0} (P : List ℕ → Z) (field4 : (w : List ℕ) (x v : ℕ) → P (put_field w x 4 v) ≡ P w)
    (counts : (types : ℕ) (w : List ℕ) (h : ℕ) → P (count_raised (class_p types) (count_p types) w h) ≡ P w)
    (memory : (w : List ℕ) (x f v : ℕ) → (f ≡ 2) ⊎ (f ≡ 15) → P (put_field w x f v) ≡ P w) (b : TypeTable) where
  names_keep : (space : Space) (id : ℕ) (name : Name) (w : List ℕ) → P ((work_naming b).type_version space id name w).names ≡ P w
  unfolding work_naming type_version_in
  names_keep space id name w = go (eqb (get_field w id 4) 0)
    where
      n : ℕ
      n = number_at b.types w id

      u : List ℕ
      u = count_raised (class_p b.types) (count_p b.types) w id

      go : (t : Bool) → P (elim t as (λ z. Resolved (List ℕ)) [ false ↦ record { passes = false; version = get_field w id 4; names = w } | true ↦ record { passes = false; version = n; names = put_field u id 4 n } ]).names ≡ P w
      go false = refl
      go true = field4 u id n ∙ counts b.types w id

  values_keep : (id i : ℕ) (name : Name) (w : List ℕ) → P ((work_naming b).value_version id i name w).names ≡ P w
  unfolding work_naming value_version_in
  values_keep id i name w = go (ltb (b.types + enumerator_of w id i) 4294967296)
    where
      n : ℕ
      n = number_at b.types w (b.types + enumerator_of w id i)

      u : List ℕ
      u = count_raised (class_p b.types) (count_p b.types) w (b.types + enumerator_of w id i)

      go : (t : Bool) → P (elim t as (λ z. Resolved (List ℕ)) [ true ↦ record { passes = false; version = n; names = u } | false ↦ record { passes = false; version = 0; names = w } ]).names ≡ P w
      go false = refl
      go true = counts b.types w (b.types + enumerator_of w id i)

  module _ (B : Rules) (id : ℕ) (t : BtfType) where
    forward_keeps : Keeps P (forward_once (work_asks b.types B) (work_naming b) B id t)
    forward_keeps = fwd_keeps P (λ w v. memory w 0 2 v (inl refl)) (λ w x v. memory w x 15 v (inr refl)) b B names_keep values_keep id t

    definition_keeps : Keeps P (definition_once (work_asks b.types B) (work_naming b) B id t)
    definition_keeps = def_keeps P (λ w v. memory w 0 2 v (inl refl)) (λ w x v. memory w x 15 v (inr refl)) b B names_keep values_keep id t

count_length : (types : ℕ) (w : List ℕ) (h : ℕ) → length (count_raised (class_p types) (count_p types) w h) ≡ length w
unfolding count_raised
count_length types w h = more_length w (count_p types (get_word w (class_p types h)))

module _ (f : ℕ) (below : f < 16) (n4 : 4 ≢ f) (types : (types c j : ℕ) → j * 16 + f ≢ count_p types c) where
  words_field4 : (w : List ℕ) (x v : ℕ) → words f (put_field w x 4 v) ≡ words f w
  words_field4 w x v = λ i k. field_other w x 4 v k f (omega arith) below n4 i

  words_counts : (ts : ℕ) (w : List ℕ) (h : ℕ) → words f (count_raised (class_p ts) (count_p ts) w h) ≡ words f w
  words_counts ts w h = λ i k. counted_other ts w h (k * 16 + f) (λ c. types ts c k) i

words_memory : (f : ℕ) → f < 16 → 2 ≢ f → 15 ≢ f → (w : List ℕ) (x g v : ℕ) → (g ≡ 2) ⊎ (g ≡ 15) → words f (put_field w x g v) ≡ words f w
words_memory f l n2 n15 w x g v q = λ i k. field_other w x g v k f (small q) l (apart q) i
  where
    small : (g ≡ 2) ⊎ (g ≡ 15) → g < 16
    small (inl e) = omega (arith, e)
    small (inr e) = omega (arith, e)

    apart : (g ≡ 2) ⊎ (g ≡ 15) → g ≢ f
    apart (inl e) h = n2 (sym e ∙ h)
    apart (inr e) h = n15 (sym e ∙ h)

apart_1 : (types c j : ℕ) → j * 16 + 1 ≢ count_p types c
apart_1 types c j e =
    ⊎_elim
    (λ l. let q : j * 16 + 1 ≡ c * 16 + 6 = e ∙ sym (place_type types 6 2 c l) in omega arith)
    (λ l. let q : j * 16 + 1 ≡ types * 16 + (c - types) * 8 + 2 = e ∙ sym (place_enum types 6 2 c l) in omega arith)
    (cases_lt c types)

apart_13 : (types c j : ℕ) → j * 16 + 13 ≢ count_p types c
apart_13 types c j e =
    ⊎_elim
    (λ l. let q : j * 16 + 13 ≡ c * 16 + 6 = e ∙ sym (place_type types 6 2 c l) in omega arith)
    (λ l. let q : j * 16 + 13 ≡ types * 16 + (c - types) * 8 + 2 = e ∙ sym (place_enum types 6 2 c l) in omega arith)
    (cases_lt c types)

-- ---- a line
pub data Line (m : Slices) : Out Slices (Unit {0}) → Type 0 where
  lined : {m' : Slices} → length m'.work ≡ length m.work → words 1 m'.work ≡ words 1 m.work → words 13 m'.work ≡ words 13 m.work → m'.at ≤ length m'.text → Line m (wrote m')
  unlined : {h : Unit {0}} {c : ℕ} → Fine c → Line m (stuck h c)

17_fine : Fine 17
17_fine e = omega arith

code_fine : (c : ℕ) → (c ≡ 12) ⊎ (c ≡ 15) ⊎ (c ≡ 16) ⊎ (c ≡ 18) → Fine c
code_fine c (inl e) f = omega arith
code_fine c (inr (inl e)) f = omega arith
code_fine c (inr (inr (inl e))) f = omega arith
code_fine c (inr (inr (inr e))) f = omega arith

module _ (m : Slices) (inside : m.at ≤ length m.text) (u : List ℕ) (long : length u ≡ length m.work) (one : words 1 u ≡ words 1 m.work) (state : words 13 u ≡ words 13 m.work) where
  put_line : (x : Text) → Told Code x → Line m (slices_of m.len (with_names none_held u (put_text m.text (Ok m.at) x)))
  unfolding slices_of with_names written bytes
  put_line _ (told a) =
      ⊎_elim
      (λ l. subst (λ (o : TextOut). Line m (slices_of m.len (with_names none_held u o))) (sym (put_none m.text m.at (whole a) l)) (unlined 17_fine))
      (λ l. subst (λ (o : TextOut). Line m (slices_of m.len (with_names none_held u o))) (sym (put_fits m.text m.at (whole a) l)) (lined long one state (omega (arith, place_length m.text m.at a (omega arith)))))
      (cases_lt (length m.text - m.at) (length a))
  put_line _ (cut_by a c q) =
      ⊎_elim
      (λ l. subst (λ (o : TextOut). Line m (slices_of m.len (with_names none_held u o))) (sym (put_none m.text m.at (cut a c) l)) (unlined 17_fine))
      (λ l. subst (λ (o : TextOut). Line m (slices_of m.len (with_names none_held u o))) (sym (put_fits m.text m.at (cut a c) l)) (unlined (code_fine c q)))
      (cases_lt (length m.text - m.at) (length a))

line_holds : (v : Writer (List ℕ)) → Keeps length v → Keeps (words 1) v → Keeps (words 13) v → Tells Code v → (m : Slices) → m.at ≤ length m.text → Line m (line_in v m)
line_holds v long one state tells m inside =
    subst (Line m) (sym (line_is v m)) (put_line m inside (said_names (v m.work)) (long m.work).0 (one m.work).0 (state m.work).0 (said_text (v m.work)) (tells m.work))

module _ (b : TypeTable) (B : Rules) (m : Slices) (inside : m.at ≤ length m.text) (x : ℕ) where
  forward_line : Line m (line_in (forward_once (work_asks b.types B) (work_naming b) B x (B.type_by_id x)) m)
  forward_line = line_holds (forward_once (work_asks b.types B) (work_naming b) B x (B.type_by_id x))
      (forward_keeps length (λ w i v. put_length w (i * 16 + 4) v) count_length (λ w x f v q. put_length w (x * 16 + f) v) b B x (B.type_by_id x))
      (forward_keeps (words 1) (words_field4 1 (omega arith) (λ e. omega arith) apart_1) (words_counts 1 (omega arith) (λ e. omega arith) apart_1) (words_memory 1 (omega arith) (λ e. omega arith) (λ e. omega arith)) b B x (B.type_by_id x))
      (forward_keeps (words 13) (words_field4 13 (omega arith) (λ e. omega arith) apart_13) (words_counts 13 (omega arith) (λ e. omega arith) apart_13) (words_memory 13 (omega arith) (λ e. omega arith) (λ e. omega arith)) b B x (B.type_by_id x))
      (forward_tells b B x (B.type_by_id x)) m inside

  definition_line : Line m (line_in (definition_once (work_asks b.types B) (work_naming b) B x (B.type_by_id x)) m)
  definition_line = line_holds (definition_once (work_asks b.types B) (work_naming b) B x (B.type_by_id x))
      (definition_keeps length (λ w i v. put_length w (i * 16 + 4) v) count_length (λ w x f v q. put_length w (x * 16 + f) v) b B x (B.type_by_id x))
      (definition_keeps (words 1) (words_field4 1 (omega arith) (λ e. omega arith) apart_1) (words_counts 1 (omega arith) (λ e. omega arith) apart_1) (words_memory 1 (omega arith) (λ e. omega arith) (λ e. omega arith)) b B x (B.type_by_id x))
      (definition_keeps (words 13) (words_field4 13 (omega arith) (λ e. omega arith) apart_13) (words_counts 13 (omega arith) (λ e. omega arith) apart_13) (words_memory 13 (omega arith) (λ e. omega arith) (λ e. omega arith)) b B x (B.type_by_id x))
      (definition_tells b B x (B.type_by_id x)) m inside

-- ---- the emptied list
pub emptied_length : (n : ℕ) (w : List ℕ) → length (emptied n w) ≡ length w
unfolding emptied
emptied_length zero w = refl
emptied_length (suc n) w = put_length (emptied n w) (n * 16 + 11) 0 ∙ emptied_length n w

emptied_words : (f : ℕ) → f < 11 → (n : ℕ) (w : List ℕ) (k : ℕ) → get_field (emptied n w) k f ≡ get_field w k f
unfolding emptied
emptied_words f l zero w k = refl
emptied_words f l (suc n) w k = field_other (emptied n w) n 11 0 k f (omega arith) (omega arith) (λ e. omega arith) ∙ emptied_words f l n w k

emptied_13 : (n : ℕ) (w : List ℕ) (k : ℕ) → get_field (emptied n w) k 13 ≡ get_field w k 13
unfolding emptied
emptied_13 zero w k = refl
emptied_13 (suc n) w k = field_other (emptied n w) n 11 0 k 13 (omega arith) (omega arith) (λ e. omega arith) ∙ emptied_13 n w k

-- ---- the machine
module _ (n : ℕ) where
  pub record Fit (m : Tagged) : Type 0 where
    pub long : 64 * n ≤ length m.slices.work
    pub inside : m.slices.at ≤ length m.slices.text

  module _ (small : n ≤ 4294967295) (b : TypeTable) (B : Rules) where
    abbrev X : Machine Tagged (Unit {0})
    X = tagged_machine b B

    abbrev marks_of : Tagged → Marks
    marks_of m = marks_in m.slices

    store_lawful : Lawful X.store n Fit
    unfolding tagged_machine slices_store
    store_lawful = record {
      mark_good = λ k x m g l. record { long = (work_lawful n small).mark_good k x (marks_of m) g.long l; inside = g.inside };
      mark_same = λ k x m g l. (work_lawful n small).mark_same k x (marks_of m) g.long l;
      mark_other = λ k x m g l d q. (work_lawful n small).mark_other k x (marks_of m) g.long l d q;
      mark_list = λ k x m g l. (work_lawful n small).mark_list k x (marks_of m) g.long l;
      push_good = λ x m g l r. record { long = (work_lawful n small).push_good x (marks_of m) g.long l r; inside = g.inside };
      push_get = λ x m g l r d. (work_lawful n small).push_get x (marks_of m) g.long l r d;
      push_list = λ x m g l r. (work_lawful n small).push_list x (marks_of m) g.long l r;
    }

    store_framed : Framed X.store n Fit (OrderKeeps X Fit)
    unfolding tagged_machine slices_store work_store work_machine
    store_framed = record {
      fr_same = λ m. record { egets = λ d. refl; tags_same = refl };
      fr_then = λ p q r f h. record { egets = λ d. h.egets d ∙ f.egets d; tags_same = h.tags_same ∙ f.tags_same };
      fr_mark = λ k x m g l. record { egets = λ d. ap mark_of (field_other m.slices.work x 1 (code k) d 13 (omega arith) (omega arith) (λ e. omega arith)); tags_same = refl };
      fr_push = λ x m g l r. record { egets = λ d. ap mark_of (field_other m.slices.work m.slices.len 11 x d 13 (omega arith) (omega arith) (λ e. omega arith)); tags_same = refl };
    }

    -- a line that defines nothing, and one that defines x
    line_same : (m : Tagged) → Fit m → (o : Out Slices (Unit {0})) → Line m.slices o → OHolds (Same X Fit m) (tagged m.tags o)
    unfolding tagged tagged_machine slices_store work_store work_machine
    line_same m g (wrote m') (lined a c d i) = ogood {s = record { slices = m'; tags = m.tags }} (record {
      good = record { long = omega (arith, a, g.long); inside = i };
      gets = λ k. ap mark_of (ap (λ (f : ℕ → ℕ). f k) c);
      egets = λ k. ap mark_of (ap (λ (f : ℕ → ℕ). f k) d);
      tags_same = refl;
    })
    line_same m g (stuck h e) (unlined q) = obad q

    line_defines : (m : Tagged) (x : ℕ) → Fit m → (o : Out Slices (Unit {0})) → Line m.slices o → OHolds (Defines X Fit x m) (tagged (m.tags ++ (x ∷ [])) o)
    unfolding tagged tagged_machine slices_store work_store work_machine
    line_defines m x g (wrote m') (lined a c d i) = ogood {s = record { slices = m'; tags = m.tags ++ (x ∷ []) }} (record {
      good = record { long = omega (arith, a, g.long); inside = i };
      gets = λ k. ap mark_of (ap (λ (f : ℕ → ℕ). f k) c);
      egets = λ k. ap mark_of (ap (λ (f : ℕ → ℕ). f k) d);
      tagged = refl;
    })
    line_defines m x g (stuck h e) (unlined q) = obad q

    pub machine_lawful : MLawful X Fit n
    unfolding tagged_machine slices_store work_store work_machine from
    machine_lawful = record {
      law = store_lawful;
      framed = store_framed;
      start_same = λ room m g. record {
        good = record { long = omega (arith, emptied_length m.slices.len m.slices.work, g.long); inside = g.inside };
        gets = λ d. ap mark_of (emptied_words 1 (omega arith) m.slices.len m.slices.work d);
        egets = λ d. ap mark_of (emptied_13 m.slices.len m.slices.work d);
        tags_same = refl;
      };
      start_list = λ room m g. refl;
      emark_good = λ k x m g l. record { long = omega (arith, put_length m.slices.work (x * 16 + 13) (code k), g.long); inside = g.inside };
      emark_gets = λ k x m g l d. ap mark_of (field_other m.slices.work x 13 (code k) d 1 (omega arith) (omega arith) (λ e. omega arith));
      emark_tags = λ k x m g l. refl;
      emark_same = λ k x m g l. ap mark_of (get_put_same m.slices.work (x * 16 + 13) (code k) (omega (arith, g.long))) ∙ mark_code k;
      emark_other = λ k x m g l d q. ap mark_of (get_put_other m.slices.work (x * 16 + 13) (d * 16 + 13) (code k) (λ e. q (omega arith)));
      forwarded_same = λ x m g l. record {
        good = record { long = omega (arith, put_length m.slices.work (x * 16 + 3) 1, g.long); inside = g.inside };
        gets = λ d. ap mark_of (field_other m.slices.work x 3 1 d 1 (omega arith) (omega arith) (λ e. omega arith));
        egets = λ d. ap mark_of (field_other m.slices.work x 3 1 d 13 (omega arith) (omega arith) (λ e. omega arith));
        tags_same = refl;
      };
      fwd_same = λ m x g l. line_same m g (line_in (forward_once (work_asks b.types B) (work_naming b) B x (B.type_by_id x)) m.slices) (forward_line b B m.slices g.inside x);
      alias_same = λ m x g l. line_same m g (line_in (forward_once (work_asks b.types B) (work_naming b) B x (B.type_by_id x)) m.slices) (forward_line b B m.slices g.inside x);
      leaf_same = λ m x g l. line_same m g (line_in (definition_once (work_asks b.types B) (work_naming b) B x (B.type_by_id x)) m.slices) (definition_line b B m.slices g.inside x);
      body_defines = λ m x g l. line_defines m x g (line_in (definition_once (work_asks b.types B) (work_naming b) B x (B.type_by_id x)) m.slices) (definition_line b B m.slices g.inside x);
      leaving_tags = λ h m. refl;
    }

-- ---- what it does to the sheet is what the code's machine does
slices_out : (ts : List ℕ) (o : Out Slices (Unit {0})) → o ≡ omap (λ (m : Tagged). m.slices) (λ h. h) (tagged ts o)
unfolding tagged
slices_out ts (wrote m) = refl
slices_out ts (stuck h c) = refl

store_map : (b : TypeTable) (B : Rules) → StoreMap (tagged_machine b B).store (work_machine b B).store (λ m. m.slices)
unfolding tagged_machine work_machine
store_map b B = record { gets = λ m x. refl; marks = λ k x m. refl; pushes = λ x m. refl; lists = λ m. refl }

pub tagged_map : (b : TypeTable) (B : Rules) → MachineMap (tagged_machine b B) (work_machine b B) (λ m. m.slices) (λ h. h)
unfolding tagged_machine work_machine
tagged_map b B = record {
  stores = store_map b B;
  starts = λ room m. refl;
  egets = λ m x. refl;
  emarks = λ k x m. refl;
  flags = λ m x. refl;
  flagged = λ x m. refl;
  fwd_lines = λ m x. slices_out m.tags ((work_machine b B).fwd_line m.slices x);
  alias_lines = λ m x. slices_out m.tags ((work_machine b B).alias_line m.slices x);
  leaf_lines = λ m x. slices_out m.tags ((work_machine b B).leaf_line m.slices x);
  bodies = λ m x. slices_out (m.tags ++ (x ∷ [])) ((work_machine b B).body m.slices x);
  helds = λ m. refl;
}

-- so a request of the one, seen without the tags, is a request of the other
pub tagged_dumped : (b : TypeTable) (B : Rules) (T : Table) (m : Tagged) (x : ℕ) → dumped (work_machine b B) T m.slices x ≡ omap (λ (m' : Tagged). m'.slices) (λ h. h) (dumped (tagged_machine b B) T m x)
tagged_dumped b B T m x = map_dumped (tagged_machine b B) (work_machine b B) (λ m'. m'.slices) (λ h. h) (tagged_map b B) T m x
