-- THE CLAIM of specs/Accounts. Assumes nothing.
use Prim.Native.Nat.{ℕ, zero, suc, zero-le, ◌+◌, ◌≤◌, ◌<◌}
use native.Mathlib.Omega.{arith}
use native.Mathlib.Nat.{le_refl}
use mathlib.Core.Path.{◌≡◌, refl, sym, ◌∙◌, ap, subst}
use mathlib.Core.Bool.{Bool, true, false, ◌||◌}
use mathlib.Core.List.{List, [], ◌∷◌, ◌++◌}
use lib.ListN.{length, get_or, set, length-set, length-append}
use lib.Dec.{ltb, leb, eqb}
use borrow.Author.Tests.{leb-false, ltb-false, eqb-true, eqb-false}
use Rattle.std.proofs.lemmas.Bool.{or_parts}
use Rattle.spec_bytes.specs.words.Words.{one_more}
use Rattle.spec_bytes.proofs.words.Laws.{more_is, more_some, more_least}
use Rattle.spec_c_dumper.specs.rules.Types.{Name, Btf}
use Rattle.spec_c_dumper.specs.rules.Machine.{Req}
use Rattle.spec_c_dumper.specs.rules.Names.{Space, Holder, holds, holders, with_one}
use Rattle.spec_c_dumper.proofs.rules.Names.{count_here, more_of}
use Rattle.proof_two_headers.specs.Shared.{Account, Ledger, no_account, account, known, made, taking, passing, number_of}
use Rattle.proof_two_headers.specs.Calls.{Lengths, capacity, reserved, ledger_short, is_current, open_number, joined, begun, Part, Side, kernel, module', Call, opens, asks, World, part_of, with_part, lent, answered, opening, asking, called, calls, new_world}
use Rattle.proof_two_headers.specs.Accounts.{used_all, AllHeld, Sound, Reached, here, takes, opened, Claim}
use Rattle.proof_two_headers.proofs.Keeps.{ledger_keeps}

-- ---- one more holder

module _ (space : Space) (name : Name) where
  -- no count falls
  pub grows : (space' : Space) (name' : Name) (l : List Holder) → holders l space' name' ≤ holders (with_one l space name) space' name'
  unfolding holders with_one holds
  grows space' name' [] = zero-le
  grows space' name' (h ∷ l) = go (holds h space name) (grows space' name' l)
    where
      by : (c : Bool) (a b x y : ℕ) → a ≤ b → x ≤ y → (elim c as (λ z. ℕ) [ true ↦ a | false ↦ x ]) ≤ (elim c as (λ z. ℕ) [ true ↦ b | false ↦ y ])
      by true a b x y p q = p
      by false a b x y p q = q

      go : (b : Bool) → holders l space' name' ≤ holders (with_one l space name) space' name'
          → holders (h ∷ l) space' name' ≤ holders (elim b as (λ z. List Holder) [ true ↦ more_of h ∷ l | false ↦ h ∷ with_one l space name ]) space' name'
      go true i = by (holds h space' name') h.count (one_more h.count) (holders l space' name') (holders l space' name') (more_least h.count) (le_refl _)
      go false i = by (holds h space' name') h.count h.count (holders l space' name') (holders (with_one l space name) space' name') (le_refl _) i

  new_length : (l : List Holder) → AllHeld l → holders l space name ≡ 0 → length (with_one l space name) ≡ length l + 1
  unfolding holders with_one
  new_length [] a e = refl
  new_length (h ∷ l) a e = go (holds h space name) e (λ q. new_length l a.1 q)
    where
      go : (b : Bool) → ◌≡◌ {A = ℕ} (elim b as (λ z. ℕ) [ true ↦ h.count | false ↦ holders l space name ]) 0 → (holders l space name ≡ 0 → length (with_one l space name) ≡ length l + 1)
          → length {A = Holder} (elim b as (λ z. List Holder) [ true ↦ more_of h ∷ l | false ↦ h ∷ with_one l space name ]) ≡ length (h ∷ l) + 1
      go true q f = absurd (omega (arith, q, a.0))
      go false q f = omega (arith, f q)

  old_length : (l : List Holder) → (holders l space name ≡ 0 → ⊥) → length (with_one l space name) ≡ length l
  unfolding holders with_one
  old_length [] n = absurd (n refl)
  old_length (h ∷ l) n = go (holds h space name) n (λ q. old_length l q)
    where
      go : (b : Bool) → (◌≡◌ {A = ℕ} (elim b as (λ z. ℕ) [ true ↦ h.count | false ↦ holders l space name ]) 0 → ⊥) → ((holders l space name ≡ 0 → ⊥) → length (with_one l space name) ≡ length l)
          → length {A = Holder} (elim b as (λ z. List Holder) [ true ↦ more_of h ∷ l | false ↦ h ∷ with_one l space name ]) ≡ length (h ∷ l)
      go true q f = refl
      go false q f = ap suc (f q)

  held_more : (l : List Holder) → AllHeld l → AllHeld (with_one l space name)
  unfolding with_one
  held_more [] a = (le_refl 1, tt)
  held_more (h ∷ l) a = go (holds h space name) (held_more l a.1)
    where
      go : (b : Bool) → AllHeld (with_one l space name) → AllHeld (elim b as (λ z. List Holder) [ true ↦ more_of h ∷ l | false ↦ h ∷ with_one l space name ])
      go true i = (more_some h.count, a.1)
      go false i = (a.0, i)

-- ---- accounts

used_set : (l : List Account) (k : ℕ) (a : Account) → a.used ≡ (get_or l k no_account).used + 1 → k < length l → used_all (set l k a) ≡ used_all l + 1
unfolding used_all
used_set [] k a e r = absurd (omega (arith, r))
used_set (x ∷ l) zero a e r = omega (arith, e)
used_set (x ∷ l) (suc k) a e r = omega (arith, used_set l k a e (omega (arith, r)))

reserved_set : (l : List Account) (k : ℕ) (a : Account) → a.reserve ≡ (get_or l k no_account).reserve → reserved (set l k a) ≡ reserved l
unfolding reserved
reserved_set [] k a e = refl
reserved_set (x ∷ l) zero a e = ap (λ (n : ℕ). n + reserved l) e
reserved_set (x ∷ l) (suc k) a e = ap (λ (n : ℕ). x.reserve + n) (reserved_set l k a e)

within_set : (l : List Account) (k : ℕ) (a : Account) → a.used ≤ a.reserve → ((j : ℕ) → (get_or l j no_account).used ≤ (get_or l j no_account).reserve)
    → (j : ℕ) → (get_or (set l k a) j no_account).used ≤ (get_or (set l k a) j no_account).reserve
within_set [] k a e h j = h j
within_set (x ∷ l) zero a e h zero = e
within_set (x ∷ l) zero a e h (suc j) = h (suc j)
within_set (x ∷ l) (suc k) a e h zero = h zero
within_set (x ∷ l) (suc k) a e h (suc j) = within_set l k a e (λ i. h (suc i)) j

in_range : (l : List Account) (k : ℕ) → 1 ≤ (get_or l k no_account).reserve → k < length l
in_range [] k r = absurd (omega (arith, r))
in_range (x ∷ l) zero r = omega arith
in_range (x ∷ l) (suc k) r = omega (arith, in_range l k r)

used_fit : (l : List Account) → ((j : ℕ) → (get_or l j no_account).used ≤ (get_or l j no_account).reserve) → used_all l ≤ reserved l
unfolding used_all reserved
used_fit [] h = zero-le
used_fit (x ∷ l) h = omega (arith, h zero, used_fit l (λ j. h (suc j)))

get_d_joined : (l : List Account) (a : Account) → a.used ≤ a.reserve → ((j : ℕ) → (get_or l j no_account).used ≤ (get_or l j no_account).reserve)
    → (j : ℕ) → (get_or (l ++ (a ∷ [])) j no_account).used ≤ (get_or (l ++ (a ∷ [])) j no_account).reserve
get_d_joined [] a e h zero = e
get_d_joined [] a e h (suc j) = h (suc j)
get_d_joined (x ∷ l) a e h zero = h zero
get_d_joined (x ∷ l) a e h (suc j) = get_d_joined l a e (λ i. h (suc i)) j

used_joined : (l : List Account) (a : Account) → used_all (l ++ (a ∷ [])) ≡ used_all l + a.used
unfolding used_all
used_joined [] a = omega arith
used_joined (x ∷ l) a = omega (arith, used_joined l a)

reserved_joined : (l : List Account) (a : Account) → reserved (l ++ (a ∷ [])) ≡ reserved l + a.reserve
unfolding reserved
reserved_joined [] a = omega arith
reserved_joined (x ∷ l) a = omega (arith, reserved_joined l a)

-- ---- the ledger stays sound

-- room for the entries is what the other fields say
sound_of : (L : Ledger) → ((k : ℕ) → (account L k).used ≤ (account L k).reserve) → used_all L.accounts ≡ length L.entries → reserved L.accounts ≤ capacity L.words → length L.accounts ≤ 2 → AllHeld L.entries → Sound L
sound_of L w o r t h = record { within = w; charged_once = o; reserves_fit = r; entries_fit = fit (capacity L.words) (used_fit L.accounts w) o r; two_at_most = t; all_held = h }
  where
    fit : (c : ℕ) → used_all L.accounts ≤ reserved L.accounts → used_all L.accounts ≡ length L.entries → reserved L.accounts ≤ c → length L.entries ≤ c
    fit c a b d = omega (arith, a, b, d)

module _ (k : ℕ) (space : Space) (name : Name) (L : Ledger) (h : Sound L) where
  abbrev more : Account
  more = record { reserve = (account L k).reserve; used = (account L k).used + 1 }

  made_sound : holders L.entries space name ≡ 0 → (account L k).used < (account L k).reserve → Sound (made k L space name)
  made_sound e l = sound_of (made k L space name)
      (within_set L.accounts k more (omega (arith, l)) h.within)
      (used_set L.accounts k more refl (in_range L.accounts k (omega (arith, l))) ∙ ap (λ (n : ℕ). n + 1) h.charged_once ∙ sym (new_length space name L.entries h.all_held e))
      (subst (λ (n : ℕ). n ≤ capacity L.words) (sym (reserved_set L.accounts k more refl)) h.reserves_fit)
      (subst (λ (n : ℕ). n ≤ 2) (sym (length-set L.accounts k more)) h.two_at_most)
      (held_more space name L.entries h.all_held)

  known_sound : (holders L.entries space name ≡ 0 → ⊥) → Sound (known L space name)
  known_sound n = sound_of (known L space name) h.within (h.charged_once ∙ sym (old_length space name L.entries n)) h.reserves_fit h.two_at_most (held_more space name L.entries h.all_held)

  taking_sound : passing k L space name ≡ false → Sound (taking k L space name)
  unfolding passing taking
  taking_sound = go (eqb (holders L.entries space name) 0) refl
    where
      go : (b : Bool) → eqb (holders L.entries space name) 0 ≡ b → ◌≡◌ {A = Bool} (elim b as (λ z. Bool) [ true ↦ leb (account L k).reserve (account L k).used | false ↦ false ]) false
          → Sound (elim b as (λ z. Ledger) [ true ↦ made k L space name | false ↦ known L space name ])
      go true e q = made_sound (eqb-true (holders L.entries space name) 0 e) (leb-false (account L k).reserve (account L k).used q)
      go false e q = known_sound (eqb-false (holders L.entries space name) 0 e)

joined_sound : (L : Ledger) (words reserve : ℕ) → ledger_short L words reserve ≡ false → Sound L → Sound (joined L words reserve)
unfolding ledger_short
joined_sound L words reserve e h =
    let a : Account = record { reserve = reserve; used = 0 } in
    let q = (or_parts (ltb words 16) (leb 2 (length L.accounts) || ltb (capacity words) (reserved L.accounts + reserve)) e).1 in
    let q₂ = or_parts (leb 2 (length L.accounts)) (ltb (capacity words) (reserved L.accounts + reserve)) q in
    sound_of (joined L words reserve)
    (get_d_joined L.accounts a zero-le h.within)
    (used_joined L.accounts a ∙ add_zero (used_all L.accounts) ∙ h.charged_once)
    (subst (λ (n : ℕ). n ≤ capacity words) (sym (reserved_joined L.accounts a)) (ltb-false (capacity words) (reserved L.accounts + reserve) q₂.1))
    (subst (λ (n : ℕ). n ≤ 2) (sym (length-append L.accounts (a ∷ []))) (fewer (length L.accounts) (leb-false 2 (length L.accounts) q₂.0)))
    h.all_held
  where
    add_zero : (n : ℕ) → n + 0 ≡ n
    add_zero n = omega arith

    fewer : (n : ℕ) → n < 2 → n + 1 ≤ 2
    fewer n l = omega (arith, l)

-- ---- any calls

ledger_own : (W : World) (d : Side) (L : Ledger) (p : Part) → L ≡ (with_part W d L p).ledger
ledger_own W kernel L p = refl
ledger_own W module' L p = refl

-- an opening that is accepted found the ledger long enough
opens_long : (other : ℕ) (L : Ledger) (words reserve : ℕ) → open_number other L words reserve ≡ 0 → ledger_short L words reserve ≡ false
unfolding open_number
opens_long zero L words reserve = λ e. go (ledger_short L words reserve) e
  where
    go : (b : Bool) → ◌≡◌ {A = ℕ} (elim b as (λ x. ℕ) [ true ↦ 9 | false ↦ 0 ]) 0 → b ≡ false
    go true e = absurd (omega (arith, e))
    go false e = refl
opens_long (suc n) L words reserve = λ e. absurd (omega (arith, e))

-- what every name taken and every opening keeps, all calls keep
module _ (B : Side → Btf) (I : Ledger → Type 0) (step : (k : ℕ) (space : Space) (name : Name) (L : Ledger) → passing k L space name ≡ false → I L → I (taking k L space name))
    (joins : (L : Ledger) (words reserve : ℕ) → ledger_short L words reserve ≡ false → I L → I (joined L words reserve)) where
  opening_keeps : (W : World) (d : Side) (l : Lengths) (reserve : ℕ) → I W.ledger → (n : ℕ) → (n ≡ 0 → ledger_short W.ledger l.ledger reserve ≡ false) → I (opening B W d l reserve n).world.ledger
  unfolding opening
  opening_keeps W d l reserve i zero e = subst I (ledger_own W d (joined W.ledger l.ledger reserve) (begun (B d) W.ledger l reserve)) (joins W.ledger l.ledger reserve (e refl) i)
  opening_keeps W d l reserve i (suc n) e = i

  asking_keeps : (W : World) (d : Side) (r : Req) → I W.ledger → (b : Bool) → I (asking B W d r b).world.ledger
  unfolding asking
  asking_keeps W d r i false = i
  asking_keeps W d r i true =
      let a = answered (B d) (part_of W d) W.ledger r in
      subst I (ledger_own W d a.sess.mach.known.names.ledger (record { number = (part_of W d).number; lengths = (part_of W d).lengths; sess = a.sess }))
      (ledger_keeps I (part_of W d).number (step (part_of W d).number) (B d) (lent W.ledger (part_of W d).sess) r i)

  call_keeps : (W : World) (c : Call) → I W.ledger → I (called B W c).world.ledger
  unfolding called
  call_keeps W (opens d other l reserve) i = opening_keeps W d l reserve i (open_number other W.ledger l.ledger reserve) (opens_long other W.ledger l.ledger reserve)
  call_keeps W (asks d l r) i = asking_keeps W d r i (is_current (part_of W d) l r)

  calls_keep : (cs : List Call) (W : World) → I W.ledger → I (calls B W cs).ledger
  unfolding calls
  calls_keep [] W i = i
  calls_keep (c ∷ cs) W i = calls_keep cs (called B W c).world (call_keeps W c i)

new_sound : Sound new_world.ledger
unfolding used_all reserved
new_sound = sound_of new_world.ledger (λ k. zero-le) refl zero-le zero-le tt

-- ---- numbers

pub taking_entries : (k : ℕ) (L : Ledger) (space : Space) (name : Name) → (taking k L space name).entries ≡ with_one L.entries space name
unfolding taking
taking_entries k L space name = go (eqb (holders L.entries space name) 0)
  where
    go : (b : Bool) → (elim b as (λ x. Ledger) [ true ↦ made k L space name | false ↦ known L space name ]).entries ≡ with_one L.entries space name
    go true = refl
    go false = refl

reached_grows : (L M : Ledger) (space : Space) (name : Name) → Reached L M → holders L.entries space name ≤ holders M.entries space name
reached_grows L _ space name here = le_refl (holders L.entries space name)
reached_grows L _ space name (takes k space' name' M r) =
    subst (λ (l : List Holder). holders L.entries space name ≤ holders l space name) (sym (taking_entries k M space' name'))
    (then_le (reached_grows L M space name r) (grows space' name' space name M.entries))
  where
    then_le : {a b c : ℕ} → a ≤ b → b ≤ c → a ≤ c
    then_le p q = omega (arith, p, q)
reached_grows L _ space name (opened words reserve M r) = reached_grows L M space name r

differ : (k : ℕ) (L M : Ledger) (space : Space) (name : Name) → Reached (taking k L space name) M → holders M.entries space name < 4294967295 → number_of L space name ≡ number_of M space name → ⊥
differ k L M space name r l e =
    let g = reached_grows (taking k L space name) M space name r in
    let c : holders (taking k L space name).entries space name ≡ number_of L space name = ap (λ (x : List Holder). holders x space name) (taking_entries k L space name) ∙ count_here space name L.entries in
    let m = more_is (holders M.entries space name) l in
    omega (arith, g, c, m, e)

-- THE CLAIM
pub accounts : Claim
accounts B = record {
  sound = λ cs. calls_keep B Sound (λ k space name L q h. taking_sound k space name L h q) (λ L words reserve e h. joined_sound L words reserve e h) cs new_world new_sound;
  reached = λ W cs. calls_keep B (Reached W.ledger) (λ k space name L q h. takes k space name L h) (λ L words reserve e h. opened words reserve L h) cs W here;
  numbers_differ = differ;
}
