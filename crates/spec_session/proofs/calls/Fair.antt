-- What a request leaves: its place in the text is not past the text's end, and what refuses it is 12 to 18. Assumes nothing.
use Prim.Native.Nat.{ℕ, zero, suc, ◌+◌, ◌-◌, ◌≤◌}
use mathlib.Core.Path.{◌≡◌, ◌∙◌, sym, subst}
use mathlib.Core.Bool.{Bool, true, false, not, ◌&&◌, ◌||◌}
use mathlib.Core.List.{List, [], ◌∷◌}
use mathlib.Core.Logic.{⊎_elim, inl, inr}
use native.Mathlib.Omega.{arith}
use lib.ListN.{length}
use lib.Dec.{eqb}
use Rattle.std.proofs.lemmas.Bool.{cases_lt}
use Rattle.std.specs.Prelude.{Ok}
use Rattle.spec_bytes.specs.text.Text.{Text, bytes}
use Rattle.spec_bytes.specs.text.Placed.{stopped, put_text, place, written}
use Rattle.spec_bytes.proofs.text.TextLaws.{put_fits, put_none, place_length}
use Rattle.spec_c_dumper.specs.rules.Order.{Node, ignored, plain, listed, through, ptr, tdef, proto, comp, Table, is_comp, is_done, Mark, new, busy, done, Store, Res, ok, refused, bind, each, meet, push_if, finish, enter, alias, fresh, visit, order}
use Rattle.spec_c_dumper.specs.rules.Machine.{Out, wrote, stuck, Machine, is_zero, pick, obind, eeach, once, mention, again, close, leaf, within, begin, allowed, look, emit}
use Rattle.spec_c_dumper.specs.rules.Types.{Btf as Rules, table_of}
use Rattle.spec_c_dumper.specs.rules.Writer.{said_names, said_text, Writer}
use Rattle.spec_c_dumper.specs.rules.Place.{with_names, none_held}
use Rattle.spec_c_dumper.proofs.rules.Closed.{Code}
use Rattle.spec_c_dumper.proofs.rules.Refusals.{Told, told, cut_by, Tells}
use Rattle.btf_layout.proofs.refusals.InWork.{definition_tells, forward_tells}
use Rattle.spec_type_table.specs.declared.types.TypeTable.{TypeTable}
use Rattle.spec_session.proofs.emission.Laws.{line_is}
use Rattle.spec_session.specs.emission.Slices.{Slices, slices_store, slices_of, line_in, work_machine}
use Rattle.spec_c_dumper.specs.rules.Request.{listed_out, dumped}

-- a refusal of a request, by its number in document 01
abbrev pub Listed : ℕ → Type 0
Listed c = (12 ≤ c) × (c ≤ 18)

module _ {M : Type 0} (Good : M → Type 0) where
  pub data Fair {H : Type 0} : Out M H → Type 0 where
    goes : (m : M) → Good m → Fair (wrote m)
    stops : {h : H} (c : ℕ) → Listed c → Fair (stuck h c)

  data FairRes : Res M → Type 0 where
    goes_on : (m : M) (b : Bool) → Good m → FairRes (ok m b)
    ends : (c : ℕ) → Listed c → FairRes (refused c)

  fair_bind : (r : Res M) (k : M → Bool → Res M) → FairRes r → ((m : M) (b : Bool) → Good m → FairRes (k m b)) → FairRes (bind r k)
  unfolding bind
  fair_bind _ k (goes_on m b g) h = h m b g
  fair_bind _ k (ends c l) h = ends c l

  fair_each : (f : M → ℕ → Res M) → ((m : M) (x : ℕ) → Good m → FairRes (f m x)) → (xs : List ℕ) (m : M) (b : Bool) → Good m → FairRes (each f xs m b)
  unfolding each
  fair_each f h [] m b g = goes_on m b g
  fair_each f h (y ∷ ys) m b g = fair_bind (f m y) (λ s' b'. each f ys s' (b || b')) (h m y g) (λ m' b' g'. fair_each f h ys m' (b || b') g')

  fair_obind : {H : Type 0} (r : Out M H) (k : M → Out M H) → Fair r → ((m : M) → Good m → Fair (k m)) → Fair (obind r k)
  unfolding obind
  fair_obind _ k (goes m g) h = h m g
  fair_obind _ k (stops c l) h = stops c l

  fair_eeach : {H : Type 0} (f : M → ℕ → Out M H) → ((m : M) (x : ℕ) → Good m → Fair (f m x)) → (xs : List ℕ) (m : M) → Good m → Fair (eeach f xs m)
  unfolding eeach
  fair_eeach f h [] m g = goes m g
  fair_eeach f h (y ∷ ys) m g = fair_obind (f m y) (eeach f ys) (h m y g) (λ m' g'. fair_eeach f h ys m' g')

  -- ordering
  module _ (K : Store M) (mark_good : (k : Mark) (x : ℕ) (m : M) → Good m → Good (K.mark k x m)) (push_good : (x : ℕ) (m : M) → Good m → Good (K.push x m)) where
    push_if_lem : (p : Bool) (x : ℕ) (m : M) → Good m → Good (push_if K p x m)
    unfolding push_if
    push_if_lem true x m g = push_good x m g
    push_if_lem false x m g = g

    finished : (p : Bool) (x : ℕ) (m : M) → Good m → Good (finish K p x m)
    finished p x m g = mark_good done x (push_if K p x m) (push_if_lem p x m g)

    fair_enter : (p : Bool) (f : M → ℕ → Res M) → ((m : M) (x : ℕ) → Good m → FairRes (f m x)) → (s : M) (x : ℕ) (nm : Bool) (ms : List ℕ) → Good s → FairRes (enter K p f s x nm ms)
    unfolding enter
    fair_enter true f h s x nm ms g = goes_on s false g
    fair_enter false f h s x nm ms g =
        fair_bind (each f ms (K.mark busy x s) false) (λ s' b. ok (finish K nm x s') true) (fair_each f h ms (K.mark busy x s) false (mark_good busy x s g)) (λ m b g'. goes_on (finish K nm x m) true (finished nm x m g'))

    fair_alias : (p was : Bool) (s : M) (x : ℕ) → Good s → FairRes (alias K p was s x)
    unfolding alias
    fair_alias true was s x g = goes_on (finish K (not was) x s) true (finished (not was) x s g)
    fair_alias false was s x g = goes_on s false g

    fair_meet : (p : Bool) (s : M) → Good s → FairRes (meet p s)
    unfolding meet
    fair_meet true s g = goes_on s false g
    fair_meet false s g = ends 13 (omega arith, omega arith)

    module _ (T : Table) (rec : M → ℕ → Bool → Res M) (h : (m : M) (x : ℕ) (weak : Bool) → Good m → FairRes (rec m x weak)) (s : M) (g : Good s) (x : ℕ) (weak : Bool) where
      fair_fresh : (nd : Node) → FairRes (fresh K T rec s x weak nd)
      unfolding fresh
      fair_fresh ignored = goes_on s false g
      fair_fresh plain = goes_on (finish K false x s) false (finished false x s g)
      fair_fresh (listed f) = goes_on (finish K (T.named x) x s) true (finished (T.named x) x s g)
      fair_fresh (through a t) = h s t (not (a && T.strong_arrays) && weak) g
      fair_fresh (ptr t) = fair_bind (rec s t true) (λ s' b. ok (finish K false x s') b) (h s t true g) (λ m b g'. goes_on (finish K false x m) b (finished false x m g'))
      fair_fresh (tdef t) = fair_bind (rec s t weak) (λ s' b. alias K (not weak || b) (is_done (K.get s' x)) s' x) (h s t weak g) (λ m b g'. fair_alias (not weak || b) (is_done (K.get m x)) m x g')
      fair_fresh (proto ts) = fair_each (λ s' y. rec s' y weak) (λ m y g'. h m y weak g') ts s false g
      fair_fresh (comp ms) = fair_enter (weak && T.named x) (λ s' y. rec s' y false) (λ m y g'. h m y false g') s x (T.named x) ms g

      fair_visit : (k : Mark) → FairRes (visit K T rec s x weak k)
      unfolding visit
      fair_visit new = fair_fresh (T.node x)
      fair_visit busy = fair_meet (is_comp (T.node x) && (weak && T.named x)) s g
      fair_visit done = goes_on s true g

    fair_order : (n : ℕ) (T : Table) (s : M) (x : ℕ) (weak : Bool) → Good s → FairRes (order K n T s x weak)
    unfolding order
    fair_order zero T s x weak g = ends 12 (omega arith, omega arith)
    fair_order (suc n) T s x weak g = fair_visit T (λ s' y w. order K n T s' y w) (λ m y w g'. fair_order n T m y w g') s g x weak (K.get s x)

  -- emission
  pub record Fairly {H : Type 0} (X : Machine M H) : Type 0 where
    pub mark_good : (k : Mark) (x : ℕ) (m : M) → Good m → Good (X.store.mark k x m)
    pub push_good : (x : ℕ) (m : M) → Good m → Good (X.store.push x m)
    pub start_good : (room : ℕ) (m : M) → Good m → Good (X.start room m)
    pub emark_good : (k : Mark) (x : ℕ) (m : M) → Good m → Good (X.emark k x m)
    pub forwarded_good : (x : ℕ) (m : M) → Good m → Good (X.forwarded x m)
    pub fwd_fair : (m : M) (x : ℕ) → Good m → Fair (X.fwd_line m x)
    pub alias_fair : (m : M) (x : ℕ) → Good m → Fair (X.alias_line m x)
    pub leaf_fair : (m : M) (x : ℕ) → Good m → Fair (X.leaf_line m x)
    pub body_fair : (m : M) (x : ℕ) → Good m → Fair (X.body m x)

  module _ {H : Type 0} (X : Machine M H) (T : Table) (L : Fairly X) where
    fair_once : (w : M → ℕ → Out M H) → ((m : M) (x : ℕ) → Good m → Fair (w m x)) → (x : ℕ) (b : Bool) (m : M) → Good m → Fair (once X T w x b m)
    unfolding once
    fair_once w h x true m g = goes m g
    fair_once w h x false m g = fair_obind (w m x) (λ s'. wrote (X.forwarded x s')) (h m x g) (λ m' g'. goes (X.forwarded x m') (L.forwarded_good x m' g'))

    fair_mention : (a nm : Bool) (x : ℕ) (m : M) → Good m → Fair (mention X T a nm x m)
    unfolding mention
    fair_mention true nm x m g = goes m g
    fair_mention false true x m g = fair_once X.fwd_line L.fwd_fair x false m g
    fair_mention false false x m g = stops 13 (omega arith, omega arith)

    fair_again : (m : M) (x cont : ℕ) (nd : Node) → Good m → Fair (again X T m x cont nd)
    unfolding again
    fair_again m x cont ignored g = goes m g
    fair_again m x cont plain g = goes m g
    fair_again m x cont (listed f) g = goes m g
    fair_again m x cont (through a t) g = goes m g
    fair_again m x cont (ptr t) g = goes m g
    fair_again m x cont (tdef t) g = fair_once X.alias_line L.alias_fair x (X.has_fwd m x) m g
    fair_again m x cont (proto ts) g = goes m g
    fair_again m x cont (comp ms) g = fair_mention (X.has_fwd m x || eqb x cont) (T.named x) x m g

    fair_close : (top : Bool) (x : ℕ) (m : M) → Good m → Fair (close X T top x m)
    unfolding close
    fair_close true x m g = fair_obind (X.body m x) (λ s'. wrote (X.emark done x s')) (L.body_fair m x g) (λ m' g'. goes (X.emark done x m') (L.emark_good done x m' g'))
    fair_close false x m g = goes (X.emark new x m) (L.emark_good new x m g)

    fair_leaf : (top : Bool) (x : ℕ) (m : M) → Good m → Fair (leaf X T top x m)
    unfolding leaf
    fair_leaf true x m g = fair_obind (X.leaf_line m x) (λ s'. wrote (X.emark done x s')) (L.leaf_fair m x g) (λ m' g'. goes (X.emark done x m') (L.emark_good done x m' g'))
    fair_leaf false x m g = goes (X.emark done x m) (L.emark_good done x m g)

    module _ (rec : M → ℕ → ℕ → Out M H) (h : (m : M) (x cont : ℕ) → Good m → Fair (rec m x cont)) (s : M) (g : Good s) (x cont : ℕ) where
      fair_within : (a nm : Bool) (ms : List ℕ) → Fair (within X T rec s x cont a nm ms)
      unfolding within
      fair_within true nm ms = fair_eeach (λ s' y. rec s' y (pick nm x cont)) (λ m y g'. h m y (pick nm x cont) g') ms (X.emark busy x s) (L.emark_good busy x s g)
      fair_within false nm ms = fair_once X.fwd_line L.fwd_fair x (X.has_fwd s x || eqb x cont) (X.emark busy x s) (L.emark_good busy x s g)

      fair_begin : (top : Bool) (nd : Node) → Fair (begin X T rec s x cont top nd)
      unfolding begin
      fair_begin top ignored = goes s g
      fair_begin top plain = goes s g
      fair_begin top (listed f) = fair_leaf (f || top) x s g
      fair_begin top (through a t) = h s t cont g
      fair_begin top (ptr t) = h s t cont g
      fair_begin top (tdef t) =
          fair_obind (rec (X.emark busy x s) t x) (λ s'. obind (once X T X.alias_line x (X.has_fwd s' x) s') (λ s''. wrote (X.emark done x s'')))
          (h (X.emark busy x s) t x (L.emark_good busy x s g))
          (λ m g'. fair_obind (once X T X.alias_line x (X.has_fwd m x) m) (λ s''. wrote (X.emark done x s'')) (fair_once X.alias_line L.alias_fair x (X.has_fwd m x) m g') (λ m' g''. goes (X.emark done x m') (L.emark_good done x m' g'')))
      fair_begin top (proto ts) = fair_eeach (λ s' y. rec s' y cont) (λ m y g'. h m y cont g') ts s g
      fair_begin top (comp ms) = fair_obind (within X T rec s x cont (top || not (T.named x)) (T.named x) ms) (close X T top x) (fair_within (top || not (T.named x)) (T.named x) ms) (λ m g'. fair_close top x m g')

      fair_allowed : (a : Bool) → Fair (allowed X T rec s x cont a)
      unfolding allowed
      fair_allowed true = stops 14 (omega arith, omega arith)
      fair_allowed false = fair_begin (is_zero cont) (T.node x)

      fair_look : (k : Mark) → Fair (look X T rec s x cont k)
      unfolding look
      fair_look new = fair_allowed (is_zero cont && not (T.named x))
      fair_look busy = fair_again s x cont (T.node x) g
      fair_look done = goes s g

    fair_emit : (n : ℕ) (s : M) (x cont : ℕ) → Good s → Fair (emit X T n s x cont)
    unfolding emit
    fair_emit zero s x cont g = stops 12 (omega arith, omega arith)
    fair_emit (suc n) s x cont g = fair_look (λ s' y c. emit X T n s' y c) (λ m y c g'. fair_emit n m y c g') s g x cont (X.eget s x)

    fair_listed : (h : H) (r : Res M) → FairRes r → Fair (listed_out X T h r)
    unfolding listed_out
    fair_listed h _ (goes_on m b g) =
        fair_obind (eeach (λ s y. emit X T 512 s y 0) (X.store.list m) m) (λ s. wrote (X.start 0 s))
        (fair_eeach (λ s y. emit X T 512 s y 0) (λ s y g'. fair_emit 512 s y 0 g') (X.store.list m) m g)
        (λ s g'. goes (X.start 0 s) (L.start_good 0 s g'))
    fair_listed h _ (ends c l) = stops c l

    pub fair_dumped : (m : M) (x : ℕ) → Good m → Fair (dumped X T m x)
    unfolding dumped
    fair_dumped m x g = fair_listed (X.held m) (order X.store 512 T m x false) (fair_order X.store L.mark_good L.push_good 512 T m x false g)

-- ---- over the lent slices: the text has k bytes, and the place is not past its end
abbrev pub Inside : ℕ → Slices → Type 0
Inside k m = (m.at ≤ length m.text) × (length m.text ≡ k)

listed_code : (c : ℕ) → Code c → Listed c
listed_code c (inl e) = (omega arith, omega arith)
listed_code c (inr (inl e)) = (omega arith, omega arith)
listed_code c (inr (inr (inl e))) = (omega arith, omega arith)
listed_code c (inr (inr (inr e))) = (omega arith, omega arith)

-- a line, where there is a place for it
module _ (n : ℕ) (t : List ℕ) (at : ℕ) (h : at ≤ length t) (k : ℕ) (long : length t ≡ k) (u : List ℕ) where
  fair_told : (x : Text) → length (bytes x) ≤ length t - at → Told Code x → Fair (Inside k) (slices_of n (with_names none_held u (written t at x)))
  unfolding slices_of with_names written bytes
  fair_told _ l (told a) = goes (record { work = u; text = place t at a; at = at + length a; len = n }) (omega (arith, place_length t at a (omega arith)), place_length t at a (omega arith) ∙ long)
  fair_told _ l (cut_by a c q) = stops c (listed_code c q)

  fair_full : Fair (Inside k) (slices_of n (with_names none_held u (stopped 17)))
  unfolding slices_of with_names
  fair_full = stops 17 (omega arith, omega arith)

  fair_put : (x : Text) → Told Code x → Fair (Inside k) (slices_of n (with_names none_held u (put_text t (Ok at) x)))
  fair_put x q =
      ⊎_elim
      (λ l. rw (put_none t at x l) fair_full)
      (λ l. rw (put_fits t at x l) (fair_told x l q))
      (cases_lt (length t - at) (length (bytes x)))

pub fair_line : (k : ℕ) (v : Writer (List ℕ)) → Tells Code v → (m : Slices) → Inside k m → Fair (Inside k) (line_in v m)
fair_line k v h m g = subst (Fair (Inside k)) (sym (line_is v m)) (fair_put m.len m.text m.at g.0 k g.1 (said_names (v m.work)) (said_text (v m.work)) (h m.work))

module _ (b : TypeTable) (B : Rules) where
  fairly : (k : ℕ) → Fairly (Inside k) (work_machine b B)
  unfolding work_machine slices_store
  fairly k = record {
    mark_good = λ j x m g. g;
    push_good = λ x m g. g;
    start_good = λ room m g. g;
    emark_good = λ j x m g. g;
    forwarded_good = λ x m g. g;
    fwd_fair = λ m x g. fair_line k _ (forward_tells b B x (B.type_by_id x)) m g;
    alias_fair = λ m x g. fair_line k _ (forward_tells b B x (B.type_by_id x)) m g;
    leaf_fair = λ m x g. fair_line k _ (definition_tells b B x (B.type_by_id x)) m g;
    body_fair = λ m x g. fair_line k _ (definition_tells b B x (B.type_by_id x)) m g;
  }

  pub fair_request : (k : ℕ) (m : Slices) (x : ℕ) → Inside k m → Fair (Inside k) (dumped (work_machine b B) (table_of B) m x)
  fair_request k m x g = fair_dumped (Inside k) (work_machine b B) (table_of B) (fairly k) m x g
