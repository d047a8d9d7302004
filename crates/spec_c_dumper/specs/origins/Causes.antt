-- Why each line is there: the rules of ordering and emission as they stand in `spec_c_dumper::rules`, over a store that notes what led to
-- each listed id
-- and a machine that notes an entry for each line.
use Rattle.std.specs.Prelude.{ℕ, zero, suc, ◌*◌, ◌-◌, ◌/◌, ◌%◌, Bool, true, false, not, List, [], ◌∷◌, ◌++◌, length, replicate, ltb, eqb}
use Rattle.spec_c_dumper.specs.rules.Order.{Node, ignored, plain, listed, through, ptr, tdef, proto, comp, Table, Store, Res, ok}
use Rattle.spec_c_dumper.specs.rules.Order.{refused, visit}
use Rattle.spec_c_dumper.specs.rules.Machine.{Out, wrote, stuck, Machine, eeach, look, Sess, Answer, shut}
use Rattle.spec_c_dumper.specs.rules.Types.{Btf, name_of}
use Rattle.spec_c_dumper.specs.rules.Names.{builtin}

-- "its id, its cause (requested, needed, forward line, early typedef: 0 to 3) and the id that led there"
pub record Entry : Type 0 where
  pub id : ℕ
  pub cause : ℕ
  pub leader : ℕ

abbrev pub entry : ℕ → ℕ → ℕ → Entry
entry id cause leader = record { id = id; cause = cause; leader = leader }

-- ---- ordering

-- "the innermost other composite or typedef being ordered [..], else by the requested id". around: those being ordered, the innermost first
unfoldable pub led_by : ℕ → List ℕ → ℕ → ℕ
led_by req [] x = req
led_by req (y ∷ around) x = elim (eqb y x) [ true ↦ led_by req around x | false ↦ y ]

-- a composite or a typedef
abbrev pub is_around : Node → Bool
is_around ignored = false
is_around plain = false
is_around (listed f) = false
is_around (through a t) = false
is_around (ptr t) = false
is_around (tdef t) = true
is_around (proto ts) = false
is_around (comp ts) = true

-- what is being ordered while x is: x too, if it is a composite or a typedef
abbrev pub inside : Bool → ℕ → List ℕ → List ℕ
inside true x around = x ∷ around
inside false x around = around

-- the store, and each listed id with the id that led to it, in the order of the listings
pub record WithLeaders (St : Type 0) : Type 0 where
  pub state : St
  pub leaders : List (ℕ × ℕ)

module _ {St : Type 0} (K : Store St) (req : ℕ) where
  abbrev pub leader_store : List ℕ → Store (WithLeaders St)
  leader_store around = record {
    get = λ s x. K.get s.state x;
    mark = λ m x s. record { state = K.mark m x s.state; leaders = s.leaders };
    push = λ x s. record { state = K.push x s.state; leaders = s.leaders ++ ((x, led_by req around x) ∷ []) };
    list = λ s. K.list s.state;
  }

  -- the rule `order`: each call with what is being ordered around it
  unfoldable pub order_with_leaders : ℕ → Table → List ℕ → WithLeaders St → ℕ → Bool → Res (WithLeaders St)
  order_with_leaders zero T around s x weak = refused 12
  order_with_leaders (suc n) T around s x weak =
      visit (leader_store around) T (λ s' y w. order_with_leaders n T (inside (is_around (T.node x)) x around) s' y w) s x weak
      (K.get s.state x)

-- "led to by [..] at its first listing"
unfoldable pub leader_of : ℕ → List (ℕ × ℕ) → ℕ → ℕ
leader_of req [] x = req
leader_of req (p ∷ leaders) x = elim (eqb p.0 x) [ true ↦ p.1 | false ↦ leader_of req leaders x ]

-- "The requested id leads to itself; a needed line is any other listed id"
unfoldable pub listed_entry : ℕ → List (ℕ × ℕ) → ℕ → Entry
listed_entry req leaders x = elim (eqb x req) [ true ↦ entry x 0 x | false ↦ entry x 1 (leader_of req leaders x) ]

-- ---- emission

-- the machine, and the entries of the call so far
pub record Traced (M : Type 0) : Type 0 where
  pub mach : M
  pub entries : List Entry

unfoldable pub with_entries : {M H : Type 0} → List Entry → Out M H → Out (Traced M) H
with_entries es (wrote m) = wrote (record { mach = m; entries = es })
with_entries es (stuck h e) = stuck h e

-- room for one more entry after k: in a list of c entries, or always
abbrev pub up_to : ℕ → ℕ → Bool
up_to c k = ltb k c

abbrev pub always : ℕ → Bool
always k = true

-- what a line comes to that is an entry, or prints nothing and is none. "A lent list too short for one more entry is 17, met before any
-- other step of that line": with what is held of the names then.
unfoldable pub line : {M H : Type 0} → (M → H) → (ℕ → Bool) → Bool → Entry → (M → Out M H) → Traced M → Out (Traced M) H
line held more false e step s = with_entries s.entries (step s.mach)
line held more true e step s =
    elim (more (length s.entries)) [
      | true ↦ with_entries (s.entries ++ (e ∷ [])) (step s.mach)
      | false ↦ stuck (held s.mach) 17
    ]

-- At the top a line is there because its id is listed. Within a container, "led to by the container id at that step": a FWD is printed as a
-- forward line (2), a typedef early (3).
unfoldable pub cause_at : ℕ → Entry → ℕ → ℕ → Entry
cause_at within top x zero = top
cause_at within top x (suc cont) = entry x within (suc cont)

-- more: whether there is room for one more entry; shows: whether the forward line or typedef line of an id prints anything; why: the entry
-- of a listed id
module _ {M H : Type 0} (X : Machine M H) (more : ℕ → Bool) (shows : ℕ → Bool) (why : ℕ → Entry) where
  -- the machine's steps within a container, 0 at the top; "a definition is one" line, also where it is only `;`
  abbrev pub noting : ℕ → Machine (Traced M) H
  noting cont = record {
    store = record {
      get = λ s x. X.store.get s.mach x;
      mark = λ m x s. record { mach = X.store.mark m x s.mach; entries = s.entries };
      push = λ x s. record { mach = X.store.push x s.mach; entries = s.entries };
      list = λ s. X.store.list s.mach;
    };
    start = λ r s. record { mach = X.start r s.mach; entries = s.entries };
    eget = λ s x. X.eget s.mach x;
    emark = λ m x s. record { mach = X.emark m x s.mach; entries = s.entries };
    has_fwd = λ s x. X.has_fwd s.mach x;
    forwarded = λ x s. record { mach = X.forwarded x s.mach; entries = s.entries };
    fwd_line = λ s x. line X.held more (shows x) (entry x 2 cont) (λ m. X.fwd_line m x) s;
    alias_line = λ s x. line X.held more (shows x) (cause_at 3 (why x) x cont) (λ m. X.alias_line m x) s;
    leaf_line = λ s x. line X.held more true (cause_at 2 (why x) x cont) (λ m. X.leaf_line m x) s;
    body = λ s x. line X.held more true (why x) (λ m. X.body m x) s;
    tags = λ s. X.tags s.mach;
    held = λ s. X.held s.mach;
    leaving = λ held s. record { mach = X.leaving held s.mach; entries = s.entries };
  }

  -- the rule `emit`: each call with the machine of its container
  unfoldable pub emit_traced : Table → ℕ → Traced M → ℕ → ℕ → Out (Traced M) H
  emit_traced T zero s x cont = stuck (X.held s.mach) 12
  emit_traced T (suc n) s x cont = look (noting cont) T (λ s' y c. emit_traced T n s' y c) s x cont (X.eget s.mach x)

-- A forward line, or a typedef, of a name that contains `__builtin_va_list` prints nothing; a definition prints at least `;`.
abbrev pub shows_in : Btf → ℕ → Bool
shows_in B x = not (builtin (name_of (B.type_by_id x)))

-- ---- requests of one call

-- what the requests of a call have come to: the last answer, the entries of the accepted ones, and whether one of them zeroed what follows
-- the text
pub record Explaining (M : Type 0) : Type 0 where
  pub answer : Answer M
  pub entries : List Entry
  pub zeroed : Bool

-- before the first request
abbrev pub untold : {M : Type 0} → Sess M → Explaining M
untold S = record { answer = record { sess = S; number = 0 }; entries = []; zeroed = false }

module _ {M H : Type 0} (X : Machine M H) (T : Table) (more : ℕ → Bool) (shows : ℕ → Bool) where
  -- "a refused request's are dropped"
  unfoldable pub dropped : Explaining M → H → ℕ → Explaining M
  dropped t held e = record { answer = shut X T t.answer.sess held e; entries = t.entries; zeroed = true }

  unfoldable pub emitted_traced : Explaining M → ℕ → Out (Traced M) H → Explaining M
  emitted_traced t x (wrote m) = record {
    answer = record { sess = record { is_open = true; mach = m.mach; asked = t.answer.sess.asked ++ (x ∷ []) }; number = 0 };
    entries = m.entries;
    zeroed = true;
  }
  emitted_traced t x (stuck held e) = dropped t held e

  -- the listed ids, each at the top
  abbrev pub each_listed : (ℕ → Entry) → List ℕ → Traced M → Out (Traced M) H
  each_listed why = eeach (λ m y. emit_traced X more shows why T 512 m y 0)

  unfoldable pub ordered_traced : Explaining M → ℕ → Res (WithLeaders M) → Explaining M
  ordered_traced t x (ok s b) =
      emitted_traced t x (each_listed (listed_entry x s.leaders) (X.store.list s.state) (record { mach = s.state; entries = t.entries }))
  ordered_traced t x (refused e) = dropped t (X.held t.answer.sess.mach) e

  -- as `gate`; 11 and 10 leave everything
  unfoldable pub gate_traced : ℕ → Explaining M → ℕ → Bool → Bool → Explaining M
  gate_traced room t x false below =
      record { answer = record { sess = t.answer.sess; number = 11 }; entries = t.entries; zeroed = t.zeroed }
  gate_traced room t x true false =
      record { answer = record { sess = t.answer.sess; number = 10 }; entries = t.entries; zeroed = t.zeroed }
  gate_traced room t x true true =
      ordered_traced t x (order_with_leaders X.store x 512 T [] (record { state = X.start room t.answer.sess.mach; leaders = [] }) x false)

  -- a request for x; room: the text's, as in `single`
  unfoldable pub single_traced : ℕ → ℕ → Explaining M → Explaining M
  single_traced room x t = gate_traced room t x t.answer.sess.is_open (ltb x T.count)

  unfoldable pub onward_traced : (Explaining M → Explaining M) → Explaining M → Explaining M
  onward_traced k t = elim t.answer.number [ zero ↦ k t | suc n ↦ t ]

  -- a list of ids, and n ids from x on: one list of entries for the call
  unfoldable pub list_traced : ℕ → List ℕ → Explaining M → Explaining M
  list_traced room [] t = t
  list_traced room (x ∷ xs) t = onward_traced (list_traced room xs) (single_traced room x t)

  unfoldable pub from_traced : ℕ → ℕ → ℕ → Explaining M → Explaining M
  from_traced room zero x t = t
  from_traced room (suc n) x t = onward_traced (from_traced room n (suc x)) (single_traced room x t)

  -- a request for all ids zeroes what follows the text also over no types
  unfoldable pub every_traced : ℕ → Sess M → Bool → Explaining M
  every_traced room S false = record { answer = record { sess = S; number = 11 }; entries = []; zeroed = false }
  every_traced room S true =
      from_traced room (T.count - 1) 1 (record { answer = record { sess = S; number = 0 }; entries = []; zeroed = true })

-- ---- the lent list, as bytes

-- a word, least significant byte first
abbrev pub word_bytes : ℕ → List ℕ
word_bytes v = v % 256 ∷ v / 256 % 256 ∷ v / 65536 % 256 ∷ v / 16777216 ∷ []

-- "three words from the list's start"
unfoldable pub bytes_of : List Entry → List ℕ
bytes_of [] = []
bytes_of (e ∷ es) = word_bytes e.id ++ (word_bytes e.cause ++ (word_bytes e.leader ++ bytes_of es))

-- "the rest is zeroed as the text's is"
unfoldable pub filled : ℕ → List Entry → List ℕ
filled n es = bytes_of es ++ replicate (n - 12 * length es) 0

-- "The answer counts them"
pub record Causes (M : Type 0) : Type 0 where
  pub answer : Answer M
  pub count : ℕ
  pub list : List ℕ

unfoldable pub causes_of : {M : Type 0} → List ℕ → Explaining M → Causes M
causes_of l t = record {
  answer = t.answer;
  count = length t.entries;
  list = elim t.zeroed [ true ↦ filled (length l) t.entries | false ↦ l ];
}

-- how many entries a lent list has room for
abbrev pub entries_in : List ℕ → ℕ
entries_in l = length l / 12

-- the calls that are lent a list l: one id, a list of ids, all ids
module _ {M H : Type 0} (X : Machine M H) (T : Table) (shows : ℕ → Bool) where
  unfoldable pub one_causes : List ℕ → ℕ → Sess M → ℕ → Causes M
  one_causes l room S x = causes_of l (single_traced X T (up_to (entries_in l)) shows room x (untold S))

  unfoldable pub list_causes : List ℕ → ℕ → Sess M → List ℕ → Causes M
  list_causes l room S xs = causes_of l (list_traced X T (up_to (entries_in l)) shows room xs (untold S))

  unfoldable pub all_causes : List ℕ → ℕ → Sess M → Causes M
  all_causes l room S = causes_of l (every_traced X T (up_to (entries_in l)) shows room S S.is_open)

-- n ids from x on
unfoldable pub ids_from : ℕ → ℕ → List ℕ
ids_from zero x = []
ids_from (suc n) x = x ∷ ids_from n (suc x)
