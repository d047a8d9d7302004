-- A line in lent bytes and in the machine of lists: the same bytes or the same refusal, and the two stay alike. Assumes nothing.
use Prim.Native.Nat.{ℕ, ◌+◌, ◌-◌, ◌*◌, ◌<◌, ◌≤◌}
use mathlib.Core.Path.{◌≡◌, refl, ap, ◌∙◌, sym, fun_ext, subst}
use mathlib.Core.Bool.{Bool, true, false, not}
use mathlib.Core.List.{List, [], ◌∷◌, ◌++◌, append_assoc, append-nil}
use mathlib.Core.Logic.{◌≢◌, ◌⊎◌, inl, inr, ⊎_elim}
use native.Mathlib.Omega.{arith}
use lib.ListN.{length, take, drop}
use lib.Seq.{take-append_seam}
use lib.Dec.{leb, eqb, ltb}
use borrow.Author.Tests.{le-leb, lt-leb, leb-true}
use Rattle.std.proofs.lemmas.Bool.{cases_lt}
use Rattle.std.specs.Prelude.{⊤}
use Rattle.spec_bytes.specs.words.Words.{get_word}
use Rattle.spec_bytes.specs.text.Text.{Text, whole, cut, bytes}
use Rattle.spec_bytes.specs.text.Placed.{place, written}
use Rattle.spec_c_dumper.specs.rules.Place.{Wrote, refused, with_names, none_held, put_here}
use Rattle.spec_c_dumper.specs.rules.Writer.{Said, said, said_names}
use Rattle.spec_c_dumper.specs.rules.Names.{Names, Resolved, Naming}
use Rattle.spec_c_dumper.specs.rules.Types.{BtfType, Btf as Rules}
use Rattle.spec_c_dumper.specs.rules.Layout.{smaller}
use Rattle.spec_c_dumper.specs.rules.Emit.{definition, forward}
use Rattle.spec_c_dumper.proofs.rules.Related.{RelSaid, same, RelNaming, rel_text, rel_names, rel_held, rel_through, rel_definition, rel_forward}
use Rattle.spec_type_table.specs.declared.types.TypeTable.{TypeTable}
use Rattle.spec_type_table.specs.Cells.{get_field, put_field, place_of, class_p, count_p, count_raised}
use Rattle.spec_type_table.specs.Numbers.{head_p, next_p, taken_p, number_at}
use Rattle.btf_open_names.specs.name_classes.Classes.{record_p, key_in, class_of}
use Rattle.spec_type_table.specs.Table.{from, btf_of, work_naming, type_version_in, value_version_in, enumerator_of}
use Rattle.spec_type_table.proofs.Frame.{counted_other, table_field, table_type_version, table_value_version}
use Rattle.spec_type_table.proofs.Laws.{place_type, place_enum}
use Rattle.spec_bytes.proofs.words.Laws.{get_put_other}
use Rattle.spec_bytes.proofs.text.TextLaws.{place_length, head_length}
use Rattle.c_dumper_dependency_order.specs.order_state.Work.{mark_of}
use Rattle.spec_c_dumper.specs.needs.Lists.{Piece, defines, other, Line, cannot, Ls, put_line}
use Rattle.spec_c_dumper.specs.needs.Session.{Known, names_at_stop, fitting, line_of, text_of, machine_by}
use Rattle.proof_demands.specs.name_counts.Indexed.{Indexed, NameFits, FitsValue}
use Rattle.proof_demands.specs.name_counts.Alike.{Alike}
use Rattle.proof_demands.proofs.name_counts.Table.{fits_table}
use Rattle.spec_c_dumper.specs.alignment_once.Writers.{definition_once, forward_once}
use Rattle.btf_layout.specs.asked.Asked.{work_asks}
use Rattle.btf_layout.proofs.refusals.InWork.{definition_keeps, forward_keeps}
use Rattle.proof_demands.specs.alignment_memory.Work.{Agree, SoundMemory, Sane}
use Rattle.proof_demands.proofs.alignment_memory.Work.{Off, place_off, count_apart}
use Rattle.proof_demands.proofs.alignment_memory.Lines.{both_said, Says, definition_says, forward_says}
use Rattle.proof_demands.specs.demands.Representation.{Bears, Shows, BothLine, lines_on, lines_stop}

-- a word that is no count of a name, no version of a type, none of the memory of alignments and not its count
pub record Free (types i : ℕ) : Type 0 where
  pub no_count : (c : ℕ) → i ≢ count_p types c
  pub no_version : (id : ℕ) → i ≢ id * 16 + 4
  pub no_visits : i ≢ 2
  pub no_align : (id : ℕ) → i ≢ id * 16 + 15

module _ (b : TypeTable) (i : ℕ) (z : Free b.types i) where
  type_free : (id : ℕ) (v : List ℕ) → get_word (type_version_in b.types id v).names i ≡ get_word v i
  unfolding type_version_in
  type_free id v = go (eqb (get_field v id 4) 0)
    where
      n : ℕ
      n = number_at b.types v id

      u : List ℕ
      u = count_raised (class_p b.types) (count_p b.types) v id

      go : (t : Bool) → get_word (elim t as (λ z. Resolved (List ℕ)) [ false ↦ record { passes = false; version = get_field v id 4; names = v } | true ↦ record { passes = false; version = n; names = put_field u id 4 n } ]).names i ≡ get_word v i
      go false = refl
      go true = get_put_other u (id * 16 + 4) i n (z.no_version id) ∙ counted_other b.types v id i z.no_count

  value_free : (k : ℕ) (v : List ℕ) → get_word (value_version_in b.types k v).names i ≡ get_word v i
  unfolding value_version_in
  value_free k v = go (ltb (b.types + k) 4294967296)
    where
      n : ℕ
      n = number_at b.types v (b.types + k)

      u : List ℕ
      u = count_raised (class_p b.types) (count_p b.types) v (b.types + k)

      go : (t : Bool) → get_word (elim t as (λ z. Resolved (List ℕ)) [ true ↦ record { passes = false; version = n; names = u } | false ↦ record { passes = false; version = 0; names = v } ]).names i ≡ get_word v i
      go false = refl
      go true = counted_other b.types v (b.types + k) i z.no_count

  pub definition_free : (B : Rules) (id : ℕ) (t : BtfType) (v : List ℕ) → get_word (said_names (definition_once (work_asks b.types B) (work_naming b) B id t v)) i ≡ get_word v i
  unfolding work_naming
  definition_free B id t v =
      (definition_keeps (λ (u : List ℕ). get_word u i) (λ u c. get_put_other u (0 * 16 + 2) i c z.no_visits) (λ u x c. get_put_other u (x * 16 + 15) i c (z.no_align x)) b B (λ space x name u. type_free x u) (λ x k name u. value_free (enumerator_of u x k) u) id t v).0

  pub forward_free : (B : Rules) (id : ℕ) (t : BtfType) (v : List ℕ) → get_word (said_names (forward_once (work_asks b.types B) (work_naming b) B id t v)) i ≡ get_word v i
  unfolding work_naming
  forward_free B id t v =
      (forward_keeps (λ (u : List ℕ). get_word u i) (λ u c. get_put_other u (0 * 16 + 2) i c z.no_visits) (λ u x c. get_put_other u (x * 16 + 15) i c (z.no_align x)) b B (λ space x name u. type_free x u) (λ x k name u. value_free (enumerator_of u x k) u) id t v).0

-- and the table stays
module _ (b : TypeTable) (s : List ℕ) where
  pub definition_table : (B : Rules) (id : ℕ) (t : BtfType) (v : List ℕ) → btf_of b s (said_names (definition_once (work_asks b.types B) (work_naming b) B id t v)) ≡ btf_of b s v
  unfolding work_naming
  definition_table B id t v = (definition_keeps (btf_of b s) (λ u c. table_field u 0 2 c (omega arith) b s (λ q. omega arith) (λ q. omega arith) (λ q. omega arith)) (λ u x c. table_field u x 15 c (omega arith) b s (λ q. omega arith) (λ q. omega arith) (λ q. omega arith)) b B (λ space x name u. table_type_version b s u x) (λ x k name u. table_value_version b s u (enumerator_of u x k)) id t v).0

  pub forward_table : (B : Rules) (id : ℕ) (t : BtfType) (v : List ℕ) → btf_of b s (said_names (forward_once (work_asks b.types B) (work_naming b) B id t v)) ≡ btf_of b s v
  unfolding work_naming
  forward_table B id t v = (forward_keeps (btf_of b s) (λ u c. table_field u 0 2 c (omega arith) b s (λ q. omega arith) (λ q. omega arith) (λ q. omega arith)) (λ u x c. table_field u x 15 c (omega arith) b s (λ q. omega arith) (λ q. omega arith) (λ q. omega arith)) b B (λ space x name u. table_type_version b s u x) (λ x k name u. table_value_version b s u (enumerator_of u x k)) id t v).0

-- words 1 and 3 of types, and all words 11 and 13
count_form : (types c i : ℕ) → (i ≡ c * 16 + 6 → ⊥) → (types ≤ c → i ≡ types * 16 + (c - types) * 8 + 2 → ⊥) → i ≢ count_p types c
count_form types c i p q e = step (cases_lt c types)
  where
    step : (c < types) ⊎ (types ≤ c) → ⊥
    step (inl l) = p (e ∙ sym (place_type types 6 2 c l))
    step (inr l) = q l (e ∙ sym (place_enum types 6 2 c l))

free_low : (types x f : ℕ) → x < types → 1 ≤ f → f < 4 → f ≢ 2 → Free types (x * 16 + f)
free_low types x f l m k n = record { no_count = λ c. count_form types c (x * 16 + f) (λ q. omega arith) (λ g q. omega arith); no_version = λ id q. omega arith; no_visits = λ q. n (omega arith); no_align = λ id q. omega arith }

free_list : (types k : ℕ) → Free types (k * 16 + 11)
free_list types k = record { no_count = λ c. count_form types c (k * 16 + 11) (λ q. omega arith) (λ g q. omega arith); no_version = λ id q. omega arith; no_visits = λ q. omega arith; no_align = λ id q. omega arith }

free_emit : (types k : ℕ) → Free types (k * 16 + 13)
free_emit types k = record { no_count = λ c. count_form types c (k * 16 + 13) (λ q. omega arith) (λ g q. omega arith); no_version = λ id q. omega arith; no_visits = λ q. omega arith; no_align = λ id q. omega arith }

-- ---- the text
-- room for n bytes more: f before the text, a in it, and c in all
room_left : (f a n c : ℕ) → a ≤ c → leb (f + a + n) (f + c) ≡ leb n (c - a)
room_left f a n c k = ⊎_elim (λ l. lt-leb (f + a + n) (f + c) (omega arith) ∙ sym (lt-leb n (c - a) l)) (λ l. le-leb (f + a + n) (f + c) (omega arith) ∙ sym (le-leb n (c - a) l)) (cases_lt (c - a) n)

module _ (text : List ℕ) (at : ℕ) (a : List ℕ) (l : at + length a ≤ length text) where
  head_is : take (at + length a) (place text at a) ≡ take at text ++ a
  head_is = ap (λ (n : ℕ). take n (place text at a)) (sym (head_length text at a l)) ∙ take-append_seam (take at text ++ a) (drop (at + length a) text)

text_more : (mk : List ℕ → Piece) → ((a : List ℕ) → text_of (mk a ∷ []) ≡ a) → (ps : List Piece) (a : List ℕ) → text_of (ps ++ (mk a ∷ [])) ≡ text_of ps ++ a
unfolding text_of
text_more mk q [] a = q a
text_more mk q (defines x t ∷ ps) a = ap (λ (l : List ℕ). t ++ l) (text_more mk q ps a) ∙ sym (append_assoc t (text_of ps) a)
text_more mk q (other t ∷ ps) a = ap (λ (l : List ℕ). t ++ l) (text_more mk q ps a) ∙ sym (append_assoc t (text_of ps) a)

pub text_defines : (x : ℕ) (a : List ℕ) → text_of (defines x a ∷ []) ≡ a
unfolding text_of
text_defines x a = append-nil a

pub text_other : (a : List ℕ) → text_of (other a ∷ []) ≡ a
unfolding text_of
text_other a = append-nil a

module _ (b : TypeTable) (e : ℕ) (s w : List ℕ) (I : Indexed b e s w) (mk : List ℕ → Piece) (mk_text : (a : List ℕ) → text_of (mk a ∷ []) ≡ a)
    (v : List ℕ) (len : ℕ) (t : Ls (Known Names)) (h : Bears b e s w v len t) (front text : List ℕ) (at : ℕ) (sh : Shows b e s w front text at t) where
  -- what writes names only keeps all but the names
  bears_names : (v' : List ℕ) (u' : Names) (n : ℕ) (ps : List Piece) → Alike b e s w v' u' → btf_of b s v' ≡ btf_of b s v → ((i : ℕ) → Free b.types i → get_word v' i ≡ get_word v i) → SoundMemory (btf_of b s w) v'
      → Bears b e s w v' len (record { marks = t.marks; olist = t.olist; emits = t.emits; fwds = t.fwds; room = t.room; known = record { names = u'; text_len = n }; pieces = ps })
  bears_names v' u' n ps a tab k mem = record {
    table = tab ∙ h.table;
    names = a;
    marks = λ x l. ap mark_of (k (x * 16 + 1) (free_low b.types x 1 l (omega arith) (omega arith) (λ q. omega arith))) ∙ h.marks x l;
    list = ap (λ (g : ℕ → ℕ). from g 0 len) (fun_ext (λ j. k (j * 16 + 11) (free_list b.types j))) ∙ h.list;
    emits = λ x l. ap mark_of (k (x * 16 + 13) (free_emit b.types x)) ∙ h.emits x l;
    fwds = λ x l. ap (λ (z : ℕ). not (eqb z 0)) (k (x * 16 + 3) (free_low b.types x 3 l (omega arith) (omega arith) (λ q. omega arith))) ∙ h.fwds x l;
    marks_n = h.marks_n;
    emits_n = h.emits_n;
    fwds_n = h.fwds_n;
    memory = mem;
  }

  abbrev put_by : List ℕ → Text → Bool → Wrote (List ℕ) ⊤
  put_by v' x d = elim d as (λ z. Wrote (List ℕ) ⊤) [ true ↦ with_names none_held v' (written text at x) | false ↦ refused tt 17 ]

  abbrev line_by : Names → Text → List Names → Bool → Line (Known Names) Names
  line_by u' x m d = elim d as (λ z. Line (Known Names) Names) [ true ↦ fitting (length front + at) u' x | false ↦ cannot (names_at_stop (smaller t.room 1073741824 - (length front + at)) (said u' x m)) 17 ]

  line_said : (u' : Names) (x : Text) (m : List Names) → line_of t.room (length front + at) (said u' x m) ≡ line_by u' x m (leb (length (bytes x)) (length text - at))
  unfolding line_of
  line_said u' x m =
      ap (λ (n : ℕ). line_by u' x m (leb (length front + at + length (bytes x)) n)) (sym sh.room)
      ∙ ap (line_by u' x m) (room_left (length front) at (length (bytes x)) (length text) sh.inside)

  pub one_line : (s₁ : Said (List ℕ)) (s₂ : Said Names) → RelSaid (Alike b e s w) s₁ s₂ → btf_of b s (said_names s₁) ≡ btf_of b s v → ((i : ℕ) → Free b.types i → get_word (said_names s₁) i ≡ get_word v i) → SoundMemory (btf_of b s w) (said_names s₁)
      → BothLine b e s w front t.room len (put_here none_held text at s₁) (put_line mk t (line_of t.room (length front + at) s₂))
  unfolding said_names with_names written fitting bytes put_here
  one_line _ _ (same v' u' x _ m r _) tab k mem =
      subst (λ (o : Line (Known Names) Names). BothLine b e s w front t.room len (put_by v' x (leb (length (bytes x)) (length text - at))) (put_line mk t o)) (sym (line_said u' x m))
      (go x (leb (length (bytes x)) (length text - at)) refl)
    where
      fits : (x : Text) → at + length (bytes x) ≤ length text → BothLine b e s w front t.room len (with_names none_held v' (written text at x)) (put_line mk t (fitting (length front + at) u' x))
      fits (whole a) l = lines_on (place text at a) (at + length a) v' _ (bears_names v' u' (length front + at + length a) (t.pieces ++ (mk a ∷ [])) r tab k mem) (record {
        room = ap (λ (n : ℕ). length front + n) (place_length text at a l) ∙ sh.room;
        place = omega arith;
        inside = omega (arith, l, place_length text at a l);
        so_far = ap (λ (p : List ℕ). front ++ p) (head_is text at a l) ∙ sym (append_assoc front (take at text) a) ∙ ap (λ (p : List ℕ). p ++ a) sh.so_far ∙ sym (text_more mk mk_text t.pieces a);
      }) refl
      fits (cut a c) l = lines_stop c

      go : (x : Text) (d : Bool) → leb (length (bytes x)) (length text - at) ≡ d
          → BothLine b e s w front t.room len (put_by v' x d) (put_line mk t (line_by u' x m d))
      go x true q = let k : length (bytes x) ≤ length text - at = leb-true (length (bytes x)) (length text - at) q in fits x (omega (arith, k, sh.inside))
      go x false q = lines_stop 17

-- ---- the names read no word of the memory
pub alike_agree : (b : TypeTable) (e : ℕ) (s w : List ℕ) → 1 ≤ b.types → (v u : List ℕ) (n : Names) → Agree v u → Alike b e s w u n → Alike b e s w v n
alike_agree b e s w some v u n a k = record {
  kept = record {
    long = a.long ∙ k.kept.long;
    class = λ h m. at (class_p b.types h) (off 5 1 (omega arith) (λ q. omega arith) (omega arith) (λ q. omega arith) h) ∙ k.kept.class h m;
    place = λ h m. at (record_p b.types h) (off 0 0 (omega arith) (λ q. omega arith) (omega arith) (λ q. omega arith) h) ∙ k.kept.place h m;
    first = λ id m. at (id * 16 + 12) (λ q. omega (arith, q), λ q. omega (arith, q)) ∙ k.kept.first id m;
    heads = λ h. at (head_p b.types h) (off 7 3 (omega arith) (λ q. omega arith) (omega arith) (λ q. omega arith) h) ∙ k.kept.heads h;
    nexts = λ h. at (next_p b.types h) (off 8 4 (omega arith) (λ q. omega arith) (omega arith) (λ q. omega arith) h) ∙ k.kept.nexts h;
    takens = λ h. at (taken_p b.types h) (off 14 6 (omega arith) (λ q. omega arith) (omega arith) (λ q. omega arith) h) ∙ k.kept.takens h;
  };
  sized = k.sized;
  its_version = λ id m. at (id * 16 + 4) (λ q. omega (arith, q), λ q. omega (arith, q)) ∙ k.its_version id m;
  its_count = λ h space name q. at (count_p b.types (class_of (key_in b s w) h)) (count_apart b.types some (class_of (key_in b s w) h)) ∙ k.its_count h space name q;
}
  where
    at : (i : ℕ) → Off i → get_word v i ≡ get_word u i
    at i o = a.words i o.0 o.1

    off : (f g : ℕ) → f < 15 → f ≢ 2 → g < 7 → g ≢ 2 → (h : ℕ) → Off (place_of b.types f g h)
    off = place_off b.types

-- ---- the lines of a session: B is the table that opening left
-- N: names that are alike those in the work
module _ (b : TypeTable) (e : ℕ) (s w : List ℕ) (I : Indexed b e s w) (Z : Sane b (btf_of b s w)) (N : Naming Names) (R : RelNaming (Alike b e s w) (NameFits b s w) (FitsValue b s w) (work_naming b) N)
    (v : List ℕ) (len : ℕ) (t : Ls (Known Names)) (h : Bears b e s w v len t) (front text : List ℕ) (at : ℕ) (sh : Shows b e s w front text at t) (x : ℕ) where
  abbrev B : Rules
  B = btf_of b s w

  abbrev type : BtfType
  type = B.type_by_id x

  -- by the remembering way, and by the plain one
  abbrev defined : Said (List ℕ)
  defined = definition_once (work_asks b.types B) (work_naming b) B x type v

  abbrev forwarded : Said (List ℕ)
  forwarded = forward_once (work_asks b.types B) (work_naming b) B x type v

  defined_says : Says b B Z defined (definition (work_naming b) B x type v)
  unfolding btf_of
  defined_says = definition_says b B Z x v h.memory

  forwarded_says : Says b B Z forwarded (forward (work_naming b) B x type v)
  unfolding btf_of
  forwarded_says = forward_says b B Z x v h.memory

  through : (s₁ s₀ : Said (List ℕ)) (s₂ : Said Names) → Says b B Z s₁ s₀ → RelSaid (Alike b e s w) s₀ s₂ → RelSaid (Alike b e s w) s₁ s₂
  through s₁ s₀ s₂ y r =
      both_said (Alike b e s w) s₁ s₂ (alike_agree b e s w Z.some (said_names s₁) (said_names s₀) (said_names s₂) y.words (rel_names (Alike b e s w) r)) (y.text ∙ rel_text (Alike b e s w) r)
      (rel_through Agree (Alike b e s w) (Alike b e s w) (λ v u n a k. alike_agree b e s w Z.some v u n a k) y.held (rel_held (Alike b e s w) r))

  definition_line : (mk : List ℕ → Piece) → ((a : List ℕ) → text_of (mk a ∷ []) ≡ a)
      → BothLine b e s w front t.room len (put_here none_held text at defined) (put_line mk t (line_of t.room t.known.text_len (definition N B x type t.known.names)))
  definition_line mk q =
      subst (λ (n : ℕ). BothLine b e s w front t.room len (put_here none_held text at defined) (put_line mk t (line_of t.room n (definition N B x type t.known.names)))) sh.place
      (one_line b e s w I mk q v len t h front text at sh defined (definition N B x type t.known.names)
      (through defined (definition (work_naming b) B x type v) (definition N B x type t.known.names) defined_says
      (rel_definition (Alike b e s w) (NameFits b s w) (FitsValue b s w) (work_naming b) N R B (fits_table b s w) x type (fits_table b s w x) v t.known.names h.names))
      (definition_table b s B x type v) (λ i z. definition_free b i z B x type v) defined_says.memory)

  -- a composite's definition, and an enum's or a forward's
  pub body_line : BothLine b e s w front t.room len (put_here none_held text at defined) ((machine_by N B).body t x)
  body_line = definition_line (defines x) (text_defines x)

  pub leaf_line : BothLine b e s w front t.room len (put_here none_held text at defined) ((machine_by N B).leaf_line t x)
  leaf_line = definition_line other text_other

  -- a forward line, and a typedef
  pub forward_line : BothLine b e s w front t.room len (put_here none_held text at forwarded) ((machine_by N B).fwd_line t x)
  forward_line =
      subst (λ (n : ℕ). BothLine b e s w front t.room len (put_here none_held text at forwarded) (put_line other t (line_of t.room n (forward N B x type t.known.names)))) sh.place
      (one_line b e s w I other text_other v len t h front text at sh forwarded (forward N B x type t.known.names)
      (through forwarded (forward (work_naming b) B x type v) (forward N B x type t.known.names) forwarded_says
      (rel_forward (Alike b e s w) (NameFits b s w) (FitsValue b s w) (work_naming b) N R B (fits_table b s w) x type (fits_table b s w x) v t.known.names h.names))
      (forward_table b s B x type v) (λ i z. forward_free b i z B x type v) forwarded_says.memory)

  pub alias_line : BothLine b e s w front t.room len (put_here none_held text at forwarded) ((machine_by N B).alias_line t x)
  alias_line = forward_line
