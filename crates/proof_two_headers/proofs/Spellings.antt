-- THE CLAIM of specs/Spellings. Assumes nothing.
use Prim.Native.Nat.{ℕ, zero, suc, ◌+◌, ◌≤◌, ◌<◌}
use native.Mathlib.Omega.{arith}
use mathlib.Core.Path.{◌≡◌, refl, sym, ◌∙◌, ap, subst}
use mathlib.Core.Bool.{Bool, true, false}
use mathlib.Core.List.Memᴰ
use mathlib.Core.List.{List, [], ◌∷◌, ◌++◌, Memᴰ, append_cancel_left}
use mathlib.Core.Logic.{⊎_elim}
use lib.ListN.{length, length-append, get_or, set, replicate}
use lib.Dec.{eqb}
use Rattle.std.proofs.lemmas.Bool.{cases_lt}
use Rattle.spec_bytes.specs.words.Words.{one_more}
use Rattle.spec_bytes.proofs.words.Laws.{more_is, more_some, more_least, get_replicate, set_one}
use Rattle.spec_bytes.specs.text.Text.{ascii}
use Rattle.spec_bytes.specs.text.Decimal.{decimal}
use Rattle.spec_bytes.proofs.text.Digits.{horner, decimal_is}
use Rattle.spec_c_dumper.specs.rules.Machine.{Req}
use Rattle.spec_c_dumper.specs.rules.Types.{Name, Btf, name_of}
use Rattle.spec_c_dumper.specs.rules.Names.{Space, ident_space, Holder, spelled, holders, with_one}
use Rattle.spec_c_dumper.specs.needs.Lists.{afresh}
use Rattle.spec_c_dumper.proofs.rules.Names.{spelled_later, spelled_low, count_here}
use Rattle.proof_two_headers.specs.Shared.{Ledger, Who, of_type, of_value, Given, Held, over, giving, number_of, taking, type_shared, value_shared}
use Rattle.proof_two_headers.specs.Calls.{Lengths, is_current, Side, kernel, module', Call, opens, asks, World, part_of, lent, open_number, opening, asking, called, calls, new_world}
use Rattle.proof_two_headers.specs.Spellings.{given_in, spelling, SameName, Otherwise, AllOtherwise, Got, FewHolders, space_of, version_in, Unlike, Claim}
use Rattle.proof_two_headers.proofs.Own.{Own, table_own}
use Rattle.proof_two_headers.proofs.Keeps.{type_by, answer_keeps}
use Rattle.proof_two_headers.proofs.Accounts.{grows, taking_entries}

-- ---- spellings tell numbers apart

-- a name is not itself with more after it
no_more : (name : Name) (n : ℕ) → name ≡ name ++ ascii "___" ++ decimal n → ⊥
no_more name n e =
    let a = length-append (name ++ ascii "___") (decimal n) in
    let b = length-append name (ascii "___") in
    let c = ap (λ (x : List ℕ). length x) e in
    omega (arith, a, b, c)

one_number : (name : Name) (n m : ℕ) → 1 ≤ n → 1 ≤ m → n ≤ 4294967295 → m ≤ 4294967295 → spelled name n ≡ spelled name m → n ≡ m
one_number name n m p q k l e = ⊎_elim (λ a. ⊎_elim (λ b. omega (arith, a, b, p, q)) (λ b. absurd (no_more name m (sym (spelled_low name n a) ∙ e ∙ spelled_later name m b))) (cases_lt m 2))
    (λ a. ⊎_elim (λ b. absurd (no_more name n (sym (spelled_low name m b) ∙ sym e ∙ spelled_later name n a))) (both a) (cases_lt m 2)) (cases_lt n 2)
  where
    both : 2 ≤ n → 2 ≤ m → n ≡ m
    both a b =
        let d : decimal n ≡ decimal m = append_cancel_left (name ++ ascii "___") (decimal n) (decimal m) (sym (spelled_later name n a) ∙ e ∙ spelled_later name m b) in
        sym (decimal_is n (omega (arith, k))).means ∙ ap (horner 0) d ∙ (decimal_is m (omega (arith, l))).means

-- ---- what is kept of the numbers of both sessions

abbrev Bound : List Holder → Given → Type 0
Bound E a = (1 ≤ a.number) × (a.number ≤ holders E a.space a.name)

-- two numbers of one name are equal at the largest only
abbrev Clash : Given → Given → Type 0
Clash a b = SameName a b → a.number ≡ b.number → 4294967295 ≤ a.number

abbrev AllClash : List Given → Type 0
AllClash [] = Unit {0}
AllClash (a ∷ l) = ((b : Given) → Memᴰ b l → Clash a b) × AllClash l

-- one session's versions and numbers, the other's, and the entries
record Pair (C D : Btf) (vs : List ℕ) (l : List Given) (ws : List ℕ) (m : List Given) (E : List Holder) : Type 0 where
  own₁ : AllClash l
  own₂ : AllClash m
  types₁ : (id : ℕ) → (get_or vs id 0 ≡ 0 → ⊥) → Got C id (get_or vs id 0) l
  types₂ : (id : ℕ) → (get_or ws id 0 ≡ 0 → ⊥) → Got D id (get_or ws id 0) m
  bound₁ : (a : Given) → Memᴰ a l → Bound E a
  bound₂ : (a : Given) → Memᴰ a m → Bound E a
  cross : (a : Given) → Memᴰ a l → (b : Given) → Memᴰ b m → Clash a b

same_flip : (a b : Given) → SameName a b → SameName b a
same_flip a b q = record { same_space = sym q.same_space; same_name = sym q.same_name }

swap : (C D : Btf) (vs : List ℕ) (l : List Given) (ws : List ℕ) (m : List Given) (E : List Holder) → Pair C D vs l ws m E → Pair D C ws m vs l E
swap C D vs l ws m E p = record {
  own₁ = p.own₂;
  own₂ = p.own₁;
  types₁ = p.types₂;
  types₂ = p.types₁;
  bound₁ = p.bound₂;
  bound₂ = p.bound₁;
  cross = λ a i b j q e. subst (λ (n : ℕ). 4294967295 ≤ n) (sym e) (p.cross b j a i (same_flip a b q) (sym e));
}

-- the number that no holder has yet, but for the largest
stuck : (n : ℕ) → one_more n ≤ n → 4294967295 ≤ one_more n
stuck n h = ⊎_elim (λ a. absurd (less (more_is n a))) (λ a. at_least a (more_least n)) (cases_lt n 4294967295)
  where
    at_least : 4294967295 ≤ n → n ≤ one_more n → 4294967295 ≤ one_more n
    at_least a b = omega (arith, a, b)

    less : one_more n ≡ n + 1 → ⊥
    less e = omega (arith, e, h)

module _ (C D : Btf) (vs : List ℕ) (l : List Given) (ws : List ℕ) (m : List Given) (E : List Holder) (p : Pair C D vs l ws m E) (space : Space) (name : Name) where
  more_bound : (a : Given) → Bound E a → Bound (with_one E space name) a
  more_bound a b = (b.0, up b.1 (grows space name a.space a.name E))
    where
      up : {x y z : ℕ} → x ≤ y → y ≤ z → x ≤ z
      up f g = omega (arith, f, g)

  -- a name that a refused request took
  kept : Pair C D vs l ws m (with_one E space name)
  kept = record {
    own₁ = p.own₁;
    own₂ = p.own₂;
    types₁ = p.types₁;
    types₂ = p.types₂;
    bound₁ = λ a i. more_bound a (p.bound₁ a i);
    bound₂ = λ a i. more_bound a (p.bound₂ a i);
    cross = p.cross;
  }

  module _ (who : Who) where
    abbrev new_one : Given
    new_one = record { space = space; who = who; name = name; number = one_more (holders E space name) }

    new_bound : Bound (with_one E space name) new_one
    new_bound = (more_some (holders E space name), is_least (count_here space name E))
      where
        is_least : {x y : ℕ} → x ≡ y → y ≤ x
        is_least e = omega (arith, e)

    new_clash : (b : Given) → Bound E b → Clash new_one b
    new_clash b k q e = stuck (holders E space name) (below k.1 e (λ i. holders E (q.same_space i) (q.same_name i)))
      where
        below : {x y z w : ℕ} → x ≤ y → z ≡ x → w ≡ y → z ≤ w
        below f g h = omega (arith, f, g, h)

    gave : (us : List ℕ) → ((id : ℕ) → (get_or us id 0 ≡ 0 → ⊥) → Got C id (get_or us id 0) (new_one ∷ l)) → Pair C D us (new_one ∷ l) ws m (with_one E space name)
    gave us ts = record {
      own₁ = (λ b i. new_clash b (p.bound₁ b i), p.own₁);
      own₂ = p.own₂;
      types₁ = ts;
      types₂ = p.types₂;
      bound₁ = λ a i. ⊎_elim (λ e. subst (Bound (with_one E space name)) (sym e) new_bound) (λ j. more_bound a (p.bound₁ a j)) (Memᴰ.cases_cons i);
      bound₂ = λ a i. more_bound a (p.bound₂ a i);
      cross = λ a i b j. ⊎_elim (λ e. subst (λ (x : Given). Clash x b) (sym e) (new_clash b (p.bound₂ b j))) (λ k. p.cross a k b j) (Memᴰ.cases_cons i);
    }

    -- what was got before
    got_still : (id v : ℕ) → Got C id v l → Got C id v (new_one ∷ l)
    got_still id v g = record { what = g.what; is_given = Memᴰ.tail g.is_given; its_id = g.its_id; its_space = g.its_space; its_name = g.its_name; its_number = g.its_number }

-- ---- one session's names, beside the other's

module _ (C D : Btf) (ws : List ℕ) (m : List Given) where
  abbrev Beside : Held → Type 0
  Beside h = Pair C D h.versions h.given ws m h.ledger.entries

  on_entries : (k : ℕ) (L : Ledger) (space : Space) (name : Name) (vs : List ℕ) (l : List Given) → Pair C D vs l ws m (with_one L.entries space name) → Pair C D vs l ws m (taking k L space name).entries
  on_entries k L space name vs l p = subst (λ (E : List Holder). Pair C D vs l ws m E) (sym (taking_entries k L space name)) p

  lost : (k : ℕ) (space : Space) (name : Name) (h : Held) → Beside h → Beside (over (taking k h.ledger space name) h)
  lost k space name h p = on_entries k h.ledger space name h.versions h.given (kept C D h.versions h.given ws m h.ledger.entries p space name)

  type_new : (k : ℕ) (space : Space) (id : ℕ) (name : Name) (h : Held) → Own C space id name → Beside h
      → Beside (record { versions = set h.versions id (number_of h.ledger space name); given = giving space (of_type id) name h; ledger = taking k h.ledger space name })
  type_new k space id name h f p =
      on_entries k h.ledger space name _ _ (gave C D h.versions h.given ws m h.ledger.entries p space name (of_type id) (set h.versions id (number_of h.ledger space name)) ts)
    where
      ts : (j : ℕ) → (get_or (set h.versions id (number_of h.ledger space name)) j 0 ≡ 0 → ⊥) → Got C j (get_or (set h.versions id (number_of h.ledger space name)) j 0) (giving space (of_type id) name h)
      ts j n = ⊎_elim
          (λ q. subst (λ (x : ℕ). Got C j x (giving space (of_type id) name h)) (sym q)
          (got_still C D h.versions h.given ws m h.ledger.entries p space name (of_type id) j (get_or h.versions j 0) (p.types₁ j (λ e. n (q ∙ e)))))
          (λ q. record {
            what = record { space = space; who = of_type id; name = name; number = number_of h.ledger space name };
            is_given = Memᴰ.head refl;
            its_id = ap of_type (sym q.0);
            its_space = f.0 ∙ ap (λ (x : ℕ). space_of (C.type_by_id x)) (sym q.0);
            its_name = f.1 ∙ ap (λ (x : ℕ). name_of (C.type_by_id x)) (sym q.0);
            its_number = sym q.1;
          })
          (set_one h.versions id (number_of h.ledger space name) j)

  type_kept : (k : ℕ) (space : Space) (id : ℕ) (name : Name) (h : Held) → Own C space id name → Beside h → (type_shared k space id name h).passes ≡ false → Beside (type_shared k space id name h).names
  unfolding type_shared
  type_kept k space id name h f p e = go (eqb (get_or h.versions id 0) 0)
    where
      go : (b : Bool) → Beside (type_by k space id name h b).names
      go true = type_new k space id name h f p
      go false = p

  value_kept : (k id i : ℕ) (name : Name) (h : Held) → Beside h → (value_shared k id i name h).passes ≡ false → Beside (value_shared k id i name h).names
  unfolding value_shared
  value_kept k id i name h p e =
      on_entries k h.ledger ident_space name _ _ (gave C D h.versions h.given ws m h.ledger.entries p ident_space name (of_value id i) h.versions
      (λ j n. got_still C D h.versions h.given ws m h.ledger.entries p ident_space name (of_value id i) j (get_or h.versions j 0) (p.types₁ j n)))

-- ---- both sessions

abbrev names_in : World → Side → Held
names_in W d = (part_of W d).sess.mach.known.names

abbrev Good : (Side → Btf) → World → Type 0
Good B W = Pair (B kernel) (B module') (names_in W kernel).versions (names_in W kernel).given (names_in W module').versions (names_in W module').given W.ledger.entries

abbrev Turned : (Side → Btf) → World → Type 0
Turned B W = Pair (B module') (B kernel) (names_in W module').versions (names_in W module').given (names_in W kernel).versions (names_in W kernel).given W.ledger.entries

turn : (B : Side → Btf) (W : World) → Good B W → Turned B W
turn B W g = swap (B kernel) (B module') (names_in W kernel).versions (names_in W kernel).given (names_in W module').versions (names_in W module').given W.ledger.entries g

turn_back : (B : Side → Btf) (W : World) → Turned B W → Good B W
turn_back B W g = swap (B module') (B kernel) (names_in W module').versions (names_in W module').given (names_in W kernel).versions (names_in W kernel).given W.ledger.entries g

afresh_beside : (C D : Btf) (n : ℕ) (vs : List ℕ) (l : List Given) (ws : List ℕ) (m : List Given) (E : List Holder) → Pair C D vs l ws m E → Pair C D (replicate n 0) [] ws m E
afresh_beside C D n vs l ws m E p = record {
  own₁ = tt;
  own₂ = p.own₂;
  types₁ = λ id h. absurd (h (get_replicate {A = ℕ} 0 n id));
  types₂ = p.types₂;
  bound₁ = λ a i. absurd (Memᴰ.not-nil i);
  bound₂ = p.bound₂;
  cross = λ a i. absurd (Memᴰ.not-nil i);
}

module _ (B : Side → Btf) where
  opening_good : (W : World) (d : Side) (l : Lengths) (reserve n : ℕ) → Good B W → Good B (opening B W d l reserve n).world
  unfolding opening afresh
  opening_good W d l reserve (suc n) g = g
  opening_good W kernel l reserve zero g = afresh_beside (B kernel) (B module') (B kernel).type_cnt _ _ (names_in W module').versions (names_in W module').given W.ledger.entries g
  opening_good W module' l reserve zero g =
      turn_back B (opening B W module' l reserve zero).world (afresh_beside (B module') (B kernel) (B module').type_cnt _ _ (names_in W kernel).versions (names_in W kernel).given W.ledger.entries (turn B W g))

  asking_good : (W : World) (d : Side) (r : Req) (b : Bool) → Good B W → Good B (asking B W d r b).world
  unfolding asking
  asking_good W d r false g = g
  asking_good W kernel r true g =
      let k = W.first.number in
      let ws = (names_in W module').versions in
      let m = (names_in W module').given in
      answer_keeps (Beside (B kernel) (B module') ws m) (Own (B kernel)) k (type_kept (B kernel) (B module') ws m k) (value_kept (B kernel) (B module') ws m k) (λ space name h p e. lost (B kernel) (B module') ws m k space name h p) (B kernel) (table_own (B kernel)) (lent W.ledger W.first.sess) r g
  asking_good W module' r true g =
      let k = W.second.number in
      let ws = (names_in W kernel).versions in
      let m = (names_in W kernel).given in
      turn_back B (asking B W module' r true).world
      (answer_keeps (Beside (B module') (B kernel) ws m) (Own (B module')) k (type_kept (B module') (B kernel) ws m k) (value_kept (B module') (B kernel) ws m k) (λ space name h p e. lost (B module') (B kernel) ws m k space name h p) (B module') (table_own (B module')) (lent W.ledger W.second.sess) r (turn B W g))

  called_good : (W : World) (c : Call) → Good B W → Good B (called B W c).world
  unfolding called
  called_good W (opens d other l reserve) g = opening_good W d l reserve (open_number other W.ledger l.ledger reserve) g
  called_good W (asks d l r) g = asking_good W d r (is_current (part_of W d) l r) g

  calls_good : (cs : List Call) (W : World) → Good B W → Good B (calls B W cs)
  unfolding calls
  calls_good [] W g = g
  calls_good (c ∷ cs) W g = calls_good cs (called B W c).world (called_good W c g)

new_good : (B : Side → Btf) → Good B new_world
unfolding afresh
new_good B = record {
  own₁ = tt;
  own₂ = tt;
  types₁ = λ id h. absurd (h refl);
  types₂ = λ id h. absurd (h refl);
  bound₁ = λ a i. absurd (Memᴰ.not-nil i);
  bound₂ = λ a i. absurd (Memᴰ.not-nil i);
  cross = λ a i. absurd (Memᴰ.not-nil i);
}

-- ---- from numbers to spellings

module _ (L : Ledger) (few : FewHolders L) where
  apart : (a b : Given) → Bound L.entries a → Bound L.entries b → Clash a b → SameName a b → spelling a ≡ spelling b → ⊥
  apart a b h k c q e = top h.1 (few a.space a.name) (c q (one_number a.name a.number b.number h.0 k.0
      (most h.1 (few a.space a.name)) (most k.1 (few b.space b.name)) (e ∙ ap (λ (n : Name). spelled n b.number) (sym q.same_name))))
    where
      most : {x y : ℕ} → x ≤ y → y < 4294967295 → x ≤ 4294967295
      most f g = omega (arith, f, g)

      top : {x y : ℕ} → x ≤ y → y < 4294967295 → 4294967295 ≤ x → ⊥
      top f g t = omega (arith, f, g, t)

  all_apart : (l : List Given) → ((a : Given) → Memᴰ a l → Bound L.entries a) → AllClash l → AllOtherwise l
  all_apart [] f c = tt
  all_apart (a ∷ l) f c =
      (λ b i. apart a b (f a (Memᴰ.head refl)) (f b (Memᴰ.tail i)) (c.0 b i), all_apart l (λ b i. f b (Memᴰ.tail i)) c.1)

same_id : (i j : ℕ) → of_type i ≡ of_type j → i ≡ j
same_id i j e = ap id_of e
  where
    id_of : Who → ℕ
    id_of (of_type x) = x
    id_of (of_value x y) = x

-- two of a list that are not one and the same
two_in : (l : List Given) → AllOtherwise l → (a b : Given) → Memᴰ a l → Memᴰ b l → (a ≡ b → ⊥) → SameName a b → spelling a ≡ spelling b → ⊥
two_in [] h a b i j n s t = Memᴰ.not-nil i
two_in (x ∷ l) h a b i j n s t = ⊎_elim
    (λ p. ⊎_elim (λ q. n (p ∙ sym q)) (λ q. subst (λ (z : Given). Otherwise z l) (sym p) h.0 b q s t) (Memᴰ.cases_cons j))
    (λ p. ⊎_elim (λ q. subst (λ (z : Given). Otherwise z l) (sym q) h.0 a p (same_flip a b s) (sym t)) (λ q. two_in l h.1 a b p q n s t) (Memᴰ.cases_cons j)) (Memᴰ.cases_cons i)

module _ (B : Side → Btf) (W : World) (few : FewHolders W.ledger) (g : Good B W) where
  own_of : (d : Side) → AllOtherwise (given_in W d)
  own_of kernel = all_apart W.ledger few (given_in W kernel) g.bound₁ g.own₁
  own_of module' = all_apart W.ledger few (given_in W module') g.bound₂ g.own₂

  across : (a : Given) → Memᴰ a (given_in W kernel) → Otherwise a (given_in W module')
  across a i b j = apart W.ledger few a b (g.bound₁ a i) (g.bound₂ b j) (g.cross a i b j)

  types_of : (d : Side) (id : ℕ) → (version_in W d id ≡ 0 → ⊥) → Got (B d) id (version_in W d id) (given_in W d)
  types_of kernel = g.types₁
  types_of module' = g.types₂

  -- of two types, in one header or in both
  sides_apart : (d e : Side) (i j : ℕ) (a b : Given) → ((d ≡ e) × (i ≡ j) → ⊥) → Memᴰ a (given_in W d) → Memᴰ b (given_in W e) → a.who ≡ of_type i → b.who ≡ of_type j
      → SameName a b → spelling a ≡ spelling b → ⊥
  sides_apart kernel kernel i j a b n x y p q s t = two_in (given_in W kernel) (own_of kernel) a b x y (λ e. n (refl, same_id i j (sym p ∙ ap (λ (z : Given). z.who) e ∙ q))) s t
  sides_apart module' module' i j a b n x y p q s t = two_in (given_in W module') (own_of module') a b x y (λ e. n (refl, same_id i j (sym p ∙ ap (λ (z : Given). z.who) e ∙ q))) s t
  sides_apart kernel module' i j a b n x y p q s t = across a x b y s t
  sides_apart module' kernel i j a b n x y p q s t = across b y a x (same_flip a b s) (sym t)

  types_apart : (d e : Side) (i j : ℕ) → ((d ≡ e) × (i ≡ j) → ⊥) → (version_in W d i ≡ 0 → ⊥) → (version_in W e j ≡ 0 → ⊥)
      → space_of ((B d).type_by_id i) ≡ space_of ((B e).type_by_id j) → name_of ((B d).type_by_id i) ≡ name_of ((B e).type_by_id j)
      → spelled (name_of ((B d).type_by_id i)) (version_in W d i) ≡ spelled (name_of ((B e).type_by_id j)) (version_in W e j) → ⊥
  types_apart d e i j n u v s t q =
      let x = types_of d i u in
      let y = types_of e j v in
      sides_apart d e i j x.what y.what n x.is_given y.is_given x.its_id y.its_id
      (record { same_space = x.its_space ∙ s ∙ sym y.its_space; same_name = x.its_name ∙ t ∙ sym y.its_name })
      ((λ k. spelled (x.its_name k) (x.its_number k)) ∙ q ∙ sym (λ k. spelled (y.its_name k) (y.its_number k)))

  unlike : Unlike B W
  unlike = record { own = own_of; each_other = across; types = types_of; two_types = types_apart }

-- THE CLAIM
pub spellings : Claim
spellings B cs few = unlike B (calls B new_world cs) few (calls_good B cs new_world (new_good B))
