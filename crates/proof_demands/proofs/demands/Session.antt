-- The calls of a session go as the session of the rules over plain lists: the same numbers, the same text. Assumes nothing but that opening
-- accepts the section.
use Prim.Native.Nat.{ℕ, zero, suc, ◌+◌, ◌-◌, ◌/◌, ◌%◌, ◌<◌, ◌≤◌}
use mathlib.Core.Path.{◌≡◌, refl, ap, ◌∙◌, sym, subst}
use mathlib.Core.Bool.{Bool, true, false, true≢false}
use mathlib.Core.List.{List, [], ◌∷◌, ◌++◌, append-nil}
use mathlib.Core.Logic.{◌⊎◌, inl, inr, ⊎_elim}
use native.Mathlib.Omega.{arith}
use native.Mathlib.Nat.{le_refl}
use lib.ListN.{length, take, drop, replicate, length-append, length-replicate}
use lib.Seq.{length-take-le, take_at, take-take, take-append-le, take-append-add}
use lib.Dec.{eqb, ltb}
use borrow.Author.Tests.{le-leb, lt-leb, eq-eqb, ne_eqb, lt-ltb, le-ltb}
use borrow.Rule.Slice.PartMut.{mid_len}
use Rattle.std.proofs.lemmas.Bool.{cases_lt}
use Rattle.spec_bytes.specs.text.Placed.{place}
use Rattle.spec_bytes.proofs.text.TextLaws.{place_length}
use Rattle.spec_c_dumper.specs.rules.Order.{Table}
use Rattle.spec_c_dumper.specs.rules.Machine.{Out, stuck, Machine, Sess, Answer, ordered, ordering, gate, single, onward, from, every, Req, one, all, serve, run}
use Rattle.spec_c_dumper.specs.rules.Types.{Btf as Rules, table_of}
use Rattle.spec_c_dumper.specs.rules.Names.{Names}
use Rattle.spec_c_dumper.specs.rules.Layout.{smaller}
use Rattle.spec_type_table.specs.declared.types.TypeTable.{TypeTable}
use Rattle.spec_type_table.specs.Table.{btf_of}
use Rattle.btf_open_causes.specs.header.Header.{btf_of as settings_of}
use Rattle.spec_opening.specs.Table.{types_of, enumerators_of}
use Rattle.spec_opening.specs.Opened.{work_of, opened as soundly}
use Rattle.spec_opening.specs.Causes.{opening_number}
use Rattle.spec_opening.proofs.ReadBack.{work_length}
use Rattle.spec_session.specs.emission.Slices.{Slices, work_machine}
use Rattle.spec_c_dumper.specs.rules.Request.{dumped}
use Rattle.spec_session.specs.declared.session.Session.{Session}
use Rattle.spec_session.specs.session.Answers.{Refused, number_of, value_of, answer_of}
use Rattle.spec_session.specs.session.Turns.{Call, is_current, Reach, reached, refused_by, then_zeros, settled, with_text, table_for, call_of, visits_in}
use Rattle.spec_session.specs.calls.Calls.{opened_call, open_call, limit_of, came_to, lent_to, requested, onward as go_on, requested_from, type_call, types_call}
use Rattle.spec_session.specs.calls.Lists.{then_next as counted_call, list_from, list_call}
use Rattle.spec_session.proofs.calls.Lists.{counted_goes, counted_stops, type_single, list_counts}
use Rattle.spec_session.proofs.calls.Fair.{fair_request}
use Rattle.spec_session.proofs.calls.Laws.{limit_short, limit_long, limit_between, stuck_listed, opens_sound}
use Rattle.spec_session.proofs.calls.Claims.{number_is, value_is, type_settles, types_settle, type_not_below, type_not_current, types_not_current, closed_stays, type_current}
use Rattle.spec_c_dumper.specs.needs.Lists.{Ls, afresh}
use Rattle.spec_c_dumper.specs.needs.Session.{Known, text_of, opened}
use Rattle.proof_demands.specs.demands.Table.{header_of, names_in, machine_in}
use Rattle.proof_demands.specs.demands.Representation.{Bears, Shows, BothRequest, both_served, both_refused}
use Rattle.proof_demands.specs.demands.Session.{Holds, Tells, singles_for, made, After, after_open, after_one, after_all, after_list}
use Rattle.proof_demands.proofs.demands.Described.{count_described, count_is}
use Rattle.proof_demands.proofs.demands.Sound.{opened_wf}
use Rattle.proof_demands.proofs.demands.OpenedMemory.{opened_sane}
use Rattle.proof_demands.proofs.demands.Named.{opened_indexed, opened_names}
use Rattle.proof_demands.proofs.demands.Start.{start_step}
use Rattle.proof_demands.proofs.demands.Began.{opened_bears}
use Rattle.proof_demands.proofs.demands.Request.{request_alike}

smaller_first : (a c : ℕ) → smaller a c ≤ a
unfolding smaller
smaller_first a c = ⊎_elim (λ l. rw (lt-leb a c l, smaller) (omega arith)) (λ l. rw (le-leb a c l, smaller) (le_refl a)) (cases_lt c a)

smaller_second : (a c : ℕ) → smaller a c ≤ c
unfolding smaller
smaller_second a c = ⊎_elim (λ l. rw (lt-leb a c l, smaller) (le_refl c)) (λ l. rw (le-leb a c l, smaller) l) (cases_lt c a)

smaller_is : (a c : ℕ) → a ≤ c → smaller a c ≡ a
unfolding smaller
smaller_is a c l = rw (le-leb a c l, smaller)

smaller_not : (a c : ℕ) → c < a → smaller a c ≡ c
unfolding smaller
smaller_not a c l = rw (lt-leb a c l, smaller)

limit_is : (k len : ℕ) → len ≤ 1073741824 → limit_of k len ≡ smaller k 1073741824
limit_is k len h = ⊎_elim
    (λ l. limit_long k len l h ∙ sym (smaller_not k 1073741824 l))
    (λ l. limit_short k len l ∙ sym (smaller_is k 1073741824 l))
    (cases_lt 1073741824 k)

-- a text of len bytes, and then zeros
module _ (len room : ℕ) (t tx : List ℕ) (is : take len t ≡ tx) (short : len ≤ length t) where
  its_len : len ≡ length tx
  its_len = sym (length-take-le len t short) ∙ ap length is

  zeros_is : then_zeros room len t ≡ tx ++ replicate (room - length tx) 0
  unfolding then_zeros
  zeros_is = ap (λ (q : List ℕ). q ++ replicate (room - len) 0) is ∙ ap (λ (k : ℕ). tx ++ replicate (room - k) 0) its_len

  zeros_begin : take len (then_zeros room len t) ≡ tx
  unfolding then_zeros
  zeros_begin = take_at (take len t) (replicate (room - len) 0) len (length-take-le len t short) ∙ is

  zeros_fit : len ≤ length (then_zeros room len t)
  unfolding then_zeros
  zeros_fit = omega (arith, length-append (take len t) (replicate (room - len) 0), length-take-le len t short)

-- the modes that the record keeps say what those at opening said
pub union_kept : (m : ℕ) → m % 16 % 2 ≡ m % 2
union_kept m = omega arith

pub arrays_kept : (m : ℕ) → m % 16 / 2 % 2 ≡ m / 2 % 2
arrays_kept m = omega arith

pub placing_kept : (m : ℕ) → m % 16 / 4 % 2 ≡ m / 4 % 2
placing_kept m = omega arith

module _ (p modes : ℕ) (s : List ℕ) (n : ℕ) (ok : opening_number p s n ≡ 0) where
  abbrev b : TypeTable
  b = header_of p modes s

  abbrev e : ℕ
  e = enumerators_of s

  abbrev w : List ℕ
  w = work_of p modes s n

  abbrev B : Rules
  B = btf_of b s w

  abbrev T : Table
  T = table_of B

  abbrev State : Type 0
  State = Ls (Known Names)

  abbrev X : Machine State Names
  X = machine_in p modes s n

  -- in the course of a call on a text slice of `room` bytes
  pub record Going (len : ℕ) (v t : List ℕ) (room : ℕ) (L : Sess State) : Type 0 where
    pub running : L.is_open ≡ true
    pub long : length t ≡ room
    pub its_length : len ≡ L.mach.known.text_len
    pub its_text : take len t ≡ text_of L.mach.pieces
    pub fits : len ≤ length t
    pub small : len ≤ 1073741824
    pub bears : Bears b e s w v 0 (X.start 0 L.mach)

  pub record Ended (len : ℕ) (t : List ℕ) (room : ℕ) (L : Sess State) : Type 0 where
    pub closed : L.is_open ≡ false
    pub its_length : len ≡ L.mach.known.text_len
    pub its_text : take len t ≡ text_of L.mach.pieces
    pub fits : len ≤ length t
    pub inside : len ≤ room
    pub small : len ≤ 1073741824

  pub data BothReach (room : ℕ) : Reach → Answer State → Type 0 where
    both_reached : (len : ℕ) (v t : List ℕ) (L : Sess State) → Going len v t room L → BothReach room (reached len v t) (record { sess = L; number = 0 })
    both_ended : (c len u : ℕ) (t : List ℕ) (L : Sess State) → Ended len t room L → BothReach room (refused_by (suc c) len u t) (record { sess = L; number = suc c })

  -- ---- one request
  module _ (len : ℕ) (v t : List ℕ) (room : ℕ) (L : Sess State) (g : Going len v t room L) (x : ℕ) where
    front_long : length (take len t) ≡ len
    front_long = length-take-le len t g.fits

    slice_long : len + length (lent_to len t) ≡ smaller room 1073741824
    slice_long =
        let lim : (len ≤ limit_of (length t) len) × (limit_of (length t) len ≤ length t) = limit_between (length t) len g.fits in
        let size : length (lent_to len t) ≡ limit_of (length t) len - len = mid_len len (limit_of (length t) len) t lim.1 in
        let is : limit_of (length t) len ≡ smaller (length t) 1073741824 = limit_is (length t) len g.small in
        let same : smaller (length t) 1073741824 ≡ smaller room 1073741824 = ap (λ (k : ℕ). smaller k 1073741824) g.long in
        omega (arith, lim.0, lim.1, size, is, same)

    abbrev slices : Slices
    slices = record { work = v; text = lent_to len t; at = 0; len = 0 }

    pub begins : Shows b e s w (take len t) (lent_to len t) 0 (X.start room L.mach)
    begins = record {
      room = omega (arith, front_long, slice_long);
      place = omega (arith, front_long, g.its_length);
      inside = omega arith;
      so_far = append-nil (take len t) ∙ g.its_text;
    }

    served : (m : Slices) (u : State) → Bears b e s w m.work 0 (X.start 0 u) → Shows b e s w (take len t) m.text m.at u → u.room ≡ room
        → Going (len + m.at) m.work (place t len m.text) room (record { is_open = true; mach = u; asked = L.asked ++ (x ∷ []) })
    served m u be sh r =
        let total : len + length m.text ≡ smaller room 1073741824 = omega (arith, front_long, sh.room ∙ ap (λ (k : ℕ). smaller k 1073741824) r) in
        let fit : len + length m.text ≤ length t = omega (arith, smaller_first room 1073741824, g.long) in
        let head : length (take len t ++ m.text) ≡ len + length m.text = length-append (take len t) m.text ∙ ap (λ (k : ℕ). k + length m.text) front_long in
        let size : length (place t len m.text) ≡ length t = place_length t len m.text fit in
        let ins : m.at ≤ length m.text = sh.inside in
        record {
          running = refl;
          long = size ∙ g.long;
          its_length = omega (arith, front_long, sh.place);
          its_text =
              take-append-le (len + m.at) (take len t ++ m.text) (drop (len + length m.text) t) (omega (arith, head, ins))
              ∙ ap (λ (k : ℕ). take (k + m.at) (take len t ++ m.text)) (sym front_long)
              ∙ take-append-add (take len t) m.text m.at
              ∙ sh.so_far;
          fits = omega (arith, size, fit, ins);
          small = omega (arith, total, ins, smaller_second room 1073741824);
          bears = be;
        }

    ended : (u : State) → u.known.text_len ≡ L.mach.known.text_len → u.pieces ≡ L.mach.pieces → Ended len (take len t) room (record { is_open = false; mach = u; asked = L.asked })
    ended u l q = record {
      closed = refl;
      its_length = g.its_length ∙ sym l;
      its_text = take-take len len t (le_refl len) ∙ g.its_text ∙ ap text_of (sym q);
      fits = omega (arith, front_long);
      inside = omega (arith, g.fits, g.long);
      small = g.small;
    }

    pub came : (u : ℕ) {o : Out Slices (Unit {0})} {a : Answer State} → BothRequest b e s w (take len t) room L x o a → ((c : ℕ) → o ≡ stuck tt c → 0 < c) → BothReach room (came_to len u t o) a
    unfolding came_to
    came d (both_served m u be sh r) k = both_reached (len + m.at) m.work (place t len m.text) _ (served m u be sh r)
    came d (both_refused zero u l q) k = absurd (let z : 0 < 0 = k 0 refl in omega arith)
    came d (both_refused (suc c) u l q) k = both_ended c len d (take len t) _ (ended u l q)

    pub single_is : x < T.count → single X T room L x ≡ ordered X T L x (ordering X T room L x)
    unfolding single gate
    single_is l = ap (λ (f : Bool). gate X T room L x f (ltb x T.count)) g.running ∙ ap (gate X T room L x true) (lt-ltb x T.count l)

    pub positive : (c : ℕ) → dumped (work_machine b B) T slices x ≡ stuck tt c → 0 < c
    positive c q =
        let z : (12 ≤ c) × (c ≤ 18) = stuck_listed (length (lent_to len t)) (dumped (work_machine b B) T slices x) (fair_request b B (length (lent_to len t)) slices x (omega arith, refl)) c q in
        omega (arith, z.0)

    pub table_now : (u : ℕ) → requested b s x len u v t ≡ came_to len u t (dumped (work_machine b B) T slices x)
    unfolding requested
    table_now u = ap (λ (K : Rules). came_to len u t (dumped (work_machine b K) (table_of K) slices x)) g.bears.table

    below : x < T.count → x < b.types
    unfolding btf_of
    below l = l

    pub request_reach : (u : ℕ) → x < T.count → BothReach room (requested b s x len u v t) (single X T room L x)
    request_reach u l =
        subst (λ (r : Reach). BothReach room r (single X T room L x)) (sym (table_now u))
        (subst (λ (a : Answer State). BothReach room (came_to len u t (dumped (work_machine b B) T slices x)) a) (sym (single_is l))
        (came u (request_alike b e s w (opened_indexed p modes s n ok) (opened_sane p modes s n ok) (names_in p modes s n) (opened_names p modes s n ok) (opened_wf p modes s n ok) (take len t) room L x slices refl g.bears begins (below l)) positive))

  -- ---- one after the other
  onward_reach : (room : ℕ) {r : Reach} {a : Answer State} (k₁ : ℕ → List ℕ → List ℕ → Reach) (k : Sess State → Answer State) → BothReach room r a
      → ((len : ℕ) (v t : List ℕ) (L : Sess State) → Going len v t room L → BothReach room (k₁ len v t) (k L)) → BothReach room (go_on r k₁) (onward X T k a)
  unfolding go_on onward
  onward_reach room k₁ k (both_reached len v t L g) h = h len v t L g
  onward_reach room k₁ k (both_ended c len u t L d) h = both_ended c len u t L d

  pub from_reach : (room k x : ℕ) → x + k ≤ T.count → (len : ℕ) (v t : List ℕ) (L : Sess State) → Going len v t room L → BothReach room (requested_from b s k x len v t) (from X T room k x L)
  unfolding requested_from from
  from_reach room zero x l len v t L g = both_reached len v t L g
  from_reach room (suc k) x l len v t L g =
      onward_reach room (requested_from b s k (suc x)) (from X T room k (suc x)) (request_reach len v t room L g x (visits_in v) (omega arith))
      (λ len' v' t' L' g'. from_reach room k (suc x) (omega arith) len' v' t' L' g')

  -- ---- the end of a call
  pub record Keeps (room : ℕ) (c : Call) (a : Answer State) : Type 0 where
    pub holds : Holds p modes s n c.session c.work c.text a.sess
    pub tells : Tells room c a

  told : (room c len : ℕ) (S : Session) (v t : List ℕ) (L : Sess State) → take len t ≡ text_of L.mach.pieces → len ≤ length t
      → Tells room (record { session = S; answer = answer_of c len; work = v; text = then_zeros room len t }) (record { sess = L; number = c })
  told room c len S v t L is short = record {
    number = number_is c len;
    value = value_is c len ∙ its_len len room t (text_of L.mach.pieces) is short;
    begins = ap (λ (k : ℕ). take k (then_zeros room len t)) (value_is c len) ∙ zeros_begin len room t (text_of L.mach.pieces) is short;
    text = λ a d. zeros_is len room t (text_of L.mach.pieces) is short;
  }

  module _ (S : Session) (work text₀ : List ℕ) (L₀ : Sess State) (h : Holds p modes s n S work text₀ L₀) (full : length work ≡ length w) (room : ℕ) where
    pub settle : {r : Reach} {a : Answer State} → BothReach room r a → Keeps room (settled S (length work) room r) a
    unfolding settled
    settle (both_reached len v t L g) = record {
      holds = record {
        is_open = sym g.running;
        section = h.section;
        its_work = h.its_work ∙ full ∙ sym g.bears.names.kept.long;
        types = h.types;
        pointer_size = h.pointer_size;
        mode = h.mode;
        its_length = g.its_length;
        its_text = zeros_begin len room t (text_of L.mach.pieces) g.its_text g.fits;
        fits = zeros_fit len room t (text_of L.mach.pieces) g.its_text g.fits;
        small = g.small;
        bears = λ q. g.bears;
      };
      tells = told room 0 len (with_text S true len (visits_in v)) v t L g.its_text g.fits;
    }
    settle (both_ended c len u t L d) = record {
      holds = record {
        is_open = sym d.closed;
        section = h.section;
        its_work = h.its_work ∙ sym (length-replicate {A = ℕ} (length work) 0);
        types = h.types;
        pointer_size = h.pointer_size;
        mode = h.mode;
        its_length = d.its_length;
        its_text = zeros_begin len room t (text_of L.mach.pieces) d.its_text d.fits;
        fits = zeros_fit len room t (text_of L.mach.pieces) d.its_text d.fits;
        small = d.small;
        bears = λ q. absurd (true≢false (sym q ∙ d.closed));
      };
      tells = told room (suc c) len (with_text S false len u) (replicate (length work) 0) t L d.its_text d.fits;
    }

  pub counted : T.count ≡ b.types
  unfolding btf_of
  counted = refl

  -- ---- a call after another, lent a text that begins with the text so far
  module _ (S : Session) (work text₀ : List ℕ) (L : Sess State) (h : Holds p modes s n S work text₀ L) (text : List ℕ) (f : S.text_len ≤ length text)
      (same : take S.text_len text ≡ take S.text_len text₀) where
    pub table_is : table_for S s ≡ b
    unfolding settings_of
    table_is =
        ap (λ (k : ℕ). settings_of s k S.modes S.types) h.pointer_size
        ∙ ap (λ (k : ℕ). settings_of s p k S.types) h.mode
        ∙ ap (settings_of s p (modes % 16)) h.types
        ∙ (λ i. record { ptr_sz = b.ptr_sz; union_as_struct = eqb (union_kept modes i) 1; big_endian = b.big_endian; strong_arrays = eqb (arrays_kept modes i) 1; placing = eqb (placing_kept modes i) 1; types = b.types; strs = b.strs })

    pub types_is : S.types ≡ T.count
    types_is = h.types ∙ sym (count_is p modes s n ok)

    pub going : L.is_open ≡ true → Going S.text_len work text (length text) L
    going o = record { running = o; long = refl; its_length = h.its_length; its_text = same ∙ h.its_text; fits = f; small = h.small; bears = h.bears o }

    full_work : L.is_open ≡ true → length work ≡ length w
    full_work o = (h.bears o).names.kept.long

    pub current : L.is_open ≡ true → is_current S (length s) (length work) (length text) ≡ true
    unfolding is_current
    current o = rw (h.is_open ∙ o, eq-eqb S.section_len (length s) h.section, eq-eqb S.work_len (length work) h.its_work, le-leb S.text_len (length text) f, is_current)

    -- 10 and 11
    still : (k : ℕ) → (k ≡ 10) ⊎ (k ≡ 11) → Keeps (length text) (record { session = S; answer = Refused k S.text_len; work = work; text = text }) (record { sess = L; number = k })
    unfolding number_of value_of
    still k which = record {
      holds = record {
        is_open = h.is_open;
        section = h.section;
        its_work = h.its_work;
        types = h.types;
        pointer_size = h.pointer_size;
        mode = h.mode;
        its_length = h.its_length;
        its_text = same ∙ h.its_text;
        fits = f;
        small = h.small;
        bears = h.bears;
      };
      tells = record {
        number = refl;
        value = its_len S.text_len (length text) text (text_of L.mach.pieces) (same ∙ h.its_text) f;
        begins = same ∙ h.its_text;
        text = λ a d. absurd (⊎_elim a d which);
      };
    }

    single_closed : (x : ℕ) → L.is_open ≡ false → single X T (length text) L x ≡ record { sess = L; number = 11 }
    unfolding single gate
    single_closed x o = ap (λ (z : Bool). gate X T (length text) L x z (ltb x T.count)) o

    single_past : (x : ℕ) → L.is_open ≡ true → T.count ≤ x → single X T (length text) L x ≡ record { sess = L; number = 10 }
    unfolding single gate
    single_past x o l = ap (λ (z : Bool). gate X T (length text) L x z (ltb x T.count)) o ∙ ap (gate X T (length text) L x true) (le-ltb x T.count l)

    abbrev KeptBy : Call → Answer State → Type 0
    KeptBy c a = Keeps (length text) c a

    along : {c c' : Call} {a a' : Answer State} → c ≡ c' → a ≡ a' → KeptBy c' a' → KeptBy c a
    along {c} {c'} {a} {a'} q r k = subst (λ (y : Call). KeptBy y a) (sym q) (subst (KeptBy c') (sym r) k)

    type_open : (x : ℕ) → L.is_open ≡ true → x < T.count → KeptBy (type_call S s work text x) (single X T (length text) L x)
    type_open x o l =
        along (type_settles S s work text x (current o) (subst (λ (k : ℕ). x < k) (sym types_is) l) ∙ ap (λ (K : TypeTable). settled S (length work) (length text) (requested K s x S.text_len S.visits work text)) table_is) refl
        (settle S work text₀ L h (full_work o) (length text) (request_reach S.text_len work text (length text) L (going o) x S.visits l))

    type_past : (x : ℕ) → L.is_open ≡ true → T.count ≤ x → KeptBy (type_call S s work text x) (single X T (length text) L x)
    type_past x o l = along (type_not_below S s work text x (current o) (subst (λ (k : ℕ). k ≤ x) (sym types_is) l)) (single_past x o l) (still 10 (inl refl))

    type_shut : (x : ℕ) → L.is_open ≡ false → KeptBy (type_call S s work text x) (single X T (length text) L x)
    type_shut x o = along (type_not_current S s work text x (closed_stays S s work text (h.is_open ∙ o))) (single_closed x o) (still 11 (inr refl))

    pub type_keeps : (x : ℕ) → KeptBy (type_call S s work text x) (single X T (length text) L x)
    type_keeps x = by L.is_open refl
      where
        by : (o : Bool) → L.is_open ≡ o → KeptBy (type_call S s work text x) (single X T (length text) L x)
        by true o = ⊎_elim (λ l. type_open x o l) (λ l. type_past x o l) (cases_lt x T.count)
        by false o = type_shut x o

    types_open : L.is_open ≡ true → KeptBy (types_call S s work text) (from X T (length text) (T.count - 1) 1 L)
    types_open o =
        along (types_settle S s work text (current o)
        ∙ ap (λ (K : TypeTable). settled S (length work) (length text) (requested_from K s (K.types - 1) 1 S.text_len work text)) table_is
        ∙ ap (λ (k : ℕ). settled S (length work) (length text) (requested_from b s (k - 1) 1 S.text_len work text)) (sym counted)) refl
        (settle S work text₀ L h (full_work o) (length text) (from_reach (length text) (T.count - 1) 1 (omega (arith, count_described p modes s n ok)) S.text_len work text L (going o)))

    pub types_keeps : KeptBy (types_call S s work text) (every X T (length text) L L.is_open)
    unfolding every
    types_keeps = by L.is_open refl
      where
        by : (o : Bool) → L.is_open ≡ o → KeptBy (types_call S s work text) (every X T (length text) L o)
        by true o = types_open o
        by false o = along (types_not_current S s work text (closed_stays S s work text (h.is_open ∙ o))) refl (still 11 (inr refl))

  -- ---- a list
  abbrev HoldsAfter : Call → Sess State → Type 0
  HoldsAfter c L = Holds p modes s n c.session c.work c.text L

  pub made_more : (k : ℕ) (c : Call) → suc k ≤ value_of c.answer → made k c ≡ suc (made (suc k) c)
  unfolding made
  made_more k c l = omega arith

  pub made_none : (k : ℕ) (S : Session) (v t : List ℕ) (m : ℕ) → (m ≡ 0) ⊎ (m ≡ 11) → made k (call_of S (answer_of m k) v t) ≡ 0
  unfolding made call_of
  made_none k S v t m (inl e) = rw (number_is m k, value_is m k, eq-eqb m 0 e) (omega arith)
  made_none k S v t m (inr e) = let d : m ≡ 0 → ⊥ = (λ z. absurd (omega arith)) in rw (number_is m k, value_is m k, ne_eqb m 0 d, eq-eqb m 11 e) (omega arith)

  pub made_one : (k : ℕ) (S : Session) (v t : List ℕ) (m : ℕ) → (m ≡ 0 → ⊥) → (m ≡ 11 → ⊥) → made k (call_of S (answer_of m k) v t) ≡ 1
  unfolding made call_of
  made_one k S v t m d e = rw (number_is m k, value_is m k, ne_eqb m 0 d, ne_eqb m 11 e) (omega arith)

  -- the single request for x, of a list after k accepted ids
  module _ (k : ℕ) (S : Session) (work text₀ : List ℕ) (L : Sess State) (h : Holds p modes s n S work text₀ L) (text : List ℕ) (f : S.text_len ≤ length text) (same : take S.text_len text ≡ take S.text_len text₀)
      (x : ℕ) (ids : List ℕ) where
    abbrev c₁ : Call
    c₁ = type_call S s work text x

    abbrev L₁ : Sess State
    L₁ = (single X T (length text) L x).sess

    abbrev rest : Call → Call
    rest c = list_from (suc k) c.session s c.work c.text ids

    pub not_11 : L.is_open ≡ true → number_of c₁.answer ≡ 11 → ⊥
    unfolding number_of
    not_11 o e = ⊎_elim below past (cases_lt x S.types)
      where
        past : S.types ≤ x → ⊥
        past l = let z : number_of c₁.answer ≡ 10 = ap (λ (c : Call). number_of c.answer) (type_not_below S s work text x (current S work text₀ L h text f same o) l) in omega arith

        below : x < S.types → ⊥
        below l = let z = (type_current S s work text x (current S work text₀ L h text f same o) l).number_kept in ⊎_elim (λ q. omega arith) (λ q. omega (arith, q.1, q.0)) z

    list_stops : (m : ℕ) → number_of c₁.answer ≡ suc m → HoldsAfter (counted_call k c₁ rest) (run X T (singles_for (length text) (made k (counted_call k c₁ rest)) (x ∷ ids)) L)
    unfolding run serve singles_for call_of number_of
    list_stops m e = subst (λ (c : Call). HoldsAfter c (run X T (singles_for (length text) (made k c) (x ∷ ids)) L)) (sym stops) (by L.is_open refl)
      where
        stops : counted_call k c₁ rest ≡ call_of c₁.session (answer_of (suc m) k) c₁.work c₁.text
        stops = counted_stops k (suc m) c₁ rest e (λ z. absurd (omega arith))

        by : (o : Bool) → L.is_open ≡ o → Holds p modes s n c₁.session c₁.work c₁.text (run X T (singles_for (length text) (made k (call_of c₁.session (answer_of (suc m) k) c₁.work c₁.text)) (x ∷ ids)) L)
        by true o =
            let d : suc m ≡ 11 → ⊥ = (λ z. not_11 o (e ∙ z)) in
            subst (λ (j : ℕ). HoldsAfter c₁ (run X T (singles_for (length text) j (x ∷ ids)) L)) (sym (made_one k c₁.session c₁.work c₁.text (suc m) (λ z. absurd (omega arith)) d))
            (type_keeps S work text₀ L h text f same x).holds
        by false o =
            let q : c₁ ≡ record { session = S; answer = Refused 11 S.text_len; work = work; text = text } = type_not_current S s work text x (closed_stays S s work text (h.is_open ∙ o)) in
            let z : suc m ≡ 11 = sym e ∙ ap (λ (c : Call). number_of c.answer) q in
            subst (λ (j : ℕ). HoldsAfter c₁ (run X T (singles_for (length text) j (x ∷ ids)) L)) (sym (made_none k c₁.session c₁.work c₁.text (suc m) (inr z)))
            (subst (λ (c : Call). HoldsAfter c L) (sym q) (still S work text₀ L h text f same 11 (inr refl)).holds)

    list_goes : number_of c₁.answer ≡ 0 → HoldsAfter (rest c₁) (run X T (singles_for (length text) (made (suc k) (rest c₁)) ids) L₁)
        → HoldsAfter (counted_call k c₁ rest) (run X T (singles_for (length text) (made k (counted_call k c₁ rest)) (x ∷ ids)) L)
    unfolding run serve singles_for
    list_goes e i =
        subst (λ (c : Call). HoldsAfter c (run X T (singles_for (length text) (made k c) (x ∷ ids)) L)) (sym (counted_goes k c₁ rest e))
        (subst (λ (j : ℕ). HoldsAfter (rest c₁) (run X T (singles_for (length text) j (x ∷ ids)) L)) (sym (made_more k (rest c₁) (list_counts s (suc k) c₁.session c₁.work c₁.text ids).at_least)) i)

    list_next : HoldsAfter (rest c₁) (run X T (singles_for (length c₁.text) (made (suc k) (rest c₁)) ids) L₁) → HoldsAfter (counted_call k c₁ rest) (run X T (singles_for (length text) (made k (counted_call k c₁ rest)) (x ∷ ids)) L)
    list_next i = by (number_of c₁.answer) refl
      where
        by : (m : ℕ) → number_of c₁.answer ≡ m → HoldsAfter (counted_call k c₁ rest) (run X T (singles_for (length text) (made k (counted_call k c₁ rest)) (x ∷ ids)) L)
        by zero e = list_goes e (subst (λ (room : ℕ). HoldsAfter (rest c₁) (run X T (singles_for room (made (suc k) (rest c₁)) ids) L₁)) (type_single S s work text x).long i)
        by (suc m) e = list_stops m e

  pub no_ids : (room j : ℕ) → singles_for room j [] ≡ []
  unfolding singles_for
  no_ids room zero = refl
  no_ids room (suc j) = refl

  pub list_holds : (ids : List ℕ) (k : ℕ) (S : Session) (work text₀ : List ℕ) (L : Sess State) → Holds p modes s n S work text₀ L → (text : List ℕ) → S.text_len ≤ length text → take S.text_len text ≡ take S.text_len text₀
      → HoldsAfter (list_from k S s work text ids) (run X T (singles_for (length text) (made k (list_from k S s work text ids)) ids) L)
  unfolding list_from run call_of
  list_holds [] k S work text₀ L h text f same =
      subst (λ (qs : List Req). Holds p modes s n S work text (run X T qs L)) (sym (no_ids (length text) (made k (list_from k S s work text [])))) (still S work text₀ L h text f same 10 (inl refl)).holds
  list_holds (x ∷ ids) k S work text₀ L h text f same =
      list_next k S work text₀ L h text f same x ids
      (list_holds ids (suc k) (type_call S s work text x).session (type_call S s work text x).work (type_call S s work text x).text (single X T (length text) L x).sess (type_keeps S work text₀ L h text f same x).holds
      (type_call S s work text x).text (type_keeps S work text₀ L h text f same x).holds.fits refl)

  -- ---- opening
  module _ (S : Session) (work text : List ℕ) (z : length work ≡ n) where
    open_is : open_call S s work text p modes ≡ opened_call S (length s) (length work) p modes (soundly (types_of s) (enumerators_of s) w (replicate (length text) 0))
    unfolding open_call
    open_is =
        ap (opened_call S (length s) (length work) p modes)
        (opens_sound p modes s work text (eq-eqb (opening_number p s (length work)) 0 (ap (opening_number p s) z ∙ ok))
        ∙ ap (λ (k : ℕ). soundly (types_of s) (enumerators_of s) (work_of p modes s k) (replicate (length text) 0)) z)

    sound_holds : (c : Call) → c ≡ opened_call S (length s) (length work) p modes (soundly (types_of s) (enumerators_of s) w (replicate (length text) 0))
        → Holds p modes s n c.session c.work c.text (opened B)
    unfolding opened_call afresh text_of
    sound_holds c q = subst (λ (y : Call). Holds p modes s n y.session y.work y.text (opened B)) (sym q) (record {
      is_open = refl;
      section = refl;
      its_work = z ∙ sym (work_length p modes s n ok);
      types = refl;
      pointer_size = refl;
      mode = refl;
      its_length = refl;
      its_text = refl;
      fits = omega arith;
      small = omega arith;
      bears = λ o. start_step b e s w w w refl refl (λ i r. refl) B 0 0 (opened B).mach (opened_bears p modes s n ok);
    })

    pub open_holds : Holds p modes s n (open_call S s work text p modes).session (open_call S s work text p modes).work (open_call S s work text p modes).text (opened B)
    open_holds = sound_holds (open_call S s work text p modes) open_is

  -- ---- any list of requests
  run_more : (rs : List Req) (r : Req) (L : Sess State) → run X T (rs ++ (r ∷ [])) L ≡ serve X T (run X T rs L) r
  unfolding run
  run_more [] r L = refl
  run_more (q ∷ rs) r L = run_more rs r (serve X T L q)

  pub run_then : (rs qs : List Req) (L : Sess State) → run X T (rs ++ qs) L ≡ run X T qs (run X T rs L)
  unfolding run
  run_then [] qs L = refl
  run_then (r ∷ rs) qs L = run_then rs qs (serve X T L r)

  pub after_holds : {c : Call} {rs : List Req} → After p modes s n c rs → Holds p modes s n c.session c.work c.text (run X T rs (opened B))
  unfolding run serve list_call
  after_holds (after_open S work text z q) = open_holds S work text z
  after_holds (after_one c rs a text f same id) =
      subst (λ (L : Sess State). Holds p modes s n (type_call c.session s c.work text id).session (type_call c.session s c.work text id).work (type_call c.session s c.work text id).text L)
      (sym (run_more rs (one (length text) id) (opened B)))
      (type_keeps c.session c.work c.text (run X T rs (opened B)) (after_holds a) text f same id).holds
  after_holds (after_all c rs a text f same) =
      subst (λ (L : Sess State). Holds p modes s n (types_call c.session s c.work text).session (types_call c.session s c.work text).work (types_call c.session s c.work text).text L)
      (sym (run_more rs (all (length text)) (opened B)))
      (types_keeps c.session c.work c.text (run X T rs (opened B)) (after_holds a) text f same).holds
  after_holds (after_list c rs a text f same ids) =
      subst (λ (L : Sess State). HoldsAfter (list_call c.session s c.work text ids) L)
      (sym (run_then rs (singles_for (length text) (made 0 (list_call c.session s c.work text ids)) ids) (opened B)))
      (list_holds ids 0 c.session c.work c.text (run X T rs (opened B)) (after_holds a) text f same)
