-- Laws of texts that are written: the cases of `put_out` and `put_text`, one text after another, and what the steps of the
-- code that writes come to. Assumes nothing.
use Prim.Native.Nat.{ℕ, min, ◌+◌, ◌-◌, ◌<◌, ◌≤◌}
use mathlib.Core.Path.{◌≡◌, refl, ap, ap₂, ◌∙◌, sym}
use mathlib.Core.List.{List, [], ◌∷◌, ◌++◌, append_assoc}
use mathlib.Core.Bool.{true}
use mathlib.Core.Logic.{⊎_elim}
use native.Mathlib.Omega.{arith}
use native.Mathlib.Nat.{add_assoc}
use lib.ListN.{length, take, drop, replicate, length-append, length-drop}
use lib.Seq.{length-take-le, take_at, drop-drop, drop-append-add, paste, paste-zero, take-length}
use borrow.Rule.Slice.PartMut.{put_mid}
use borrow.Author.Tests.{le-leb, lt-leb}
use Rattle.std.proofs.lemmas.Bool.{cases_lt}
use Rattle.std.specs.Prelude.{Ok, Err, IsErrAnd}
use Rattle.std.proofs.lemmas.List.{take-replicate}
use Rattle.std.proofs.lemmas.Slice.{put_mid-paste}
use Rattle.spec_bytes.specs.Refusals.{refusal_number}
use Rattle.spec_bytes.specs.declared.refusal.Refusal.{Refusal}
use Rattle.spec_bytes.specs.declared.refusal.Refusal.TheVariants.{TextFull}
use Rattle.spec_bytes.specs.text.Text.{Text, whole, cut, join, bytes, pfx}
use Rattle.spec_bytes.specs.text.Placed.{done, stopped, is_stopped, Placed, put_out, place, written, put_text}

module _ (t : List ℕ) (at : ℕ) (a : List ℕ) (h : at + length a ≤ length t) where
  pub head_length : length (take at t ++ a) ≡ at + length a
  head_length =
      let l : at ≤ length t = omega arith in
      length-append (take at t) a ∙ ap (λ (k : ℕ). k + length a) (length-take-le at t l)

  pub place_length : length (place t at a) ≡ length t
  place_length =
      length-append (take at t ++ a) (drop (at + length a) t)
      ∙ omega (arith, head_length, length-drop (at + length a) t)

  place_place : (b : List ℕ) → place (place t at a) (at + length a) b ≡ place t at (a ++ b)
  place_place b =
      rw (take_at (take at t ++ a) (drop (at + length a) t) (at + length a) head_length, length-append, ← add_assoc, ← append_assoc)
      (ap (λ (r : List ℕ). take at t ++ a ++ b ++ r) rest)
    where
      rest : drop (at + length a + length b) (place t at a) ≡ drop (at + length a + length b) t
      rest =
          ap (λ (k : ℕ). drop (k + length b) (place t at a)) (sym head_length)
          ∙ drop-append-add (take at t ++ a) (drop (at + length a) t) (length b)
          ∙ drop-drop (length b) (at + length a) t

-- ---- the cases

pub put_fits : (t : List ℕ) (at : ℕ) (x : Text) → length (bytes x) ≤ length t - at → put_text t (Ok at) x ≡ written t at x
unfolding put_text
put_fits t at x h = rw (put_text, le-leb (length (bytes x)) (length t - at) h)

pub put_none : (t : List ℕ) (at : ℕ) (x : Text) → length t - at < length (bytes x) → put_text t (Ok at) x ≡ stopped 17
unfolding put_text
put_none t at x h = rw (put_text, lt-leb (length (bytes x)) (length t - at) h)

pub whole_is : (t : List ℕ) (at : ℕ) (a : List ℕ) → written t at (whole a) ≡ done (place t at a) (at + length a)
unfolding written
whole_is t at a = refl

cut_is : (t : List ℕ) (at : ℕ) (a : List ℕ) (c : ℕ) → written t at (cut a c) ≡ stopped c
unfolding written
cut_is t at a c = refl

-- after a refusal nothing is written
pub put_past : (t : List ℕ) (c : Refusal) (x : Text) → put_out (Err c) t ≡ put_text t (Err c) x
unfolding put_out put_text
put_past t c x = refl

-- so `?` hands on what stopped the writing
pub put_ended : (t : List ℕ) (r : Placed) (c : Refusal) (x : Text) → IsErrAnd r (λ e. e ≡ c) → put_out r t ≡ put_text t (Err c) x
put_ended t (Ok n) c x e = absurd e
put_ended t (Err d) c x e = ap (λ k. put_out (Err k) t) e ∙ put_past t c x

-- ---- one text after another

module _ (t : List ℕ) (n : Placed) where
  -- what was stopped stays so
  pub stays : (c : ℕ) (y : Text) → put_out n t ≡ stopped c → put_text t n y ≡ stopped c
  unfolding put_out put_text
  stays c y e = go n e
    where
      go : (m : Placed) → put_out m t ≡ stopped c → put_text t m y ≡ stopped c
      go (Ok k) q = absurd (let z : ◌≡◌ {A = ℕ} 0 1 = cc in omega arith)
      go (Err d) q = q

  -- what was written is at hand
  pub went : (u : List ℕ) (k : ℕ) → put_out n t ≡ done u k → (t ≡ u) × (n ≡ Ok k)
  unfolding put_out
  went u k e = go n e
    where
      go : (m : Placed) → put_out m t ≡ done u k → (t ≡ u) × (m ≡ Ok k)
      go (Ok j) q = let p : j ≡ k = cc in (cc, ap Ok p)
      go (Err d) q = absurd (let z : ◌≡◌ {A = ℕ} 0 1 = cc in omega arith)

pub bytes_join : (a : List ℕ) (y : Text) → bytes (join (whole a) y) ≡ a ++ bytes y
unfolding bytes join
bytes_join a (whole b) = refl
bytes_join a (cut b c) = refl

-- no text changes nothing, wherever it is put
pub place_none : (t : List ℕ) (at : ℕ) → place t at [] ≡ t
place_none t at = sym (paste-zero t at [])

join_none : (y : Text) → join (whole []) y ≡ y
unfolding join
join_none (whole b) = refl
join_none (cut b c) = refl

pub none_of : (a : List ℕ) → length a ≤ 0 → a ≡ []
none_of [] h = refl
none_of (x ∷ a) h = absurd (omega arith)

module _ (t : List ℕ) (at : ℕ) (a : List ℕ) (h : at + length a ≤ length t) where
  written_join : (y : Text) → written (place t at a) (at + length a) y ≡ written t at (join (whole a) y)
  unfolding written join
  written_join (whole b) = ap₂ done (place_place t at a h b) (omega (arith, length-append a b))
  written_join (cut b c) = refl

  -- a second text, from where the first ended
  put_on : (y : Text) → put_text (place t at a) (Ok (at + length a)) y ≡ put_text t (Ok at) (join (whole a) y)
  put_on y = ⊎_elim over fits (cases_lt (length t - (at + length a)) (length (bytes y)))
    where
      same : length (bytes (join (whole a) y)) ≡ length a + length (bytes y)
      same = ap length (bytes_join a y) ∙ length-append a (bytes y)

      fits : length (bytes y) ≤ length t - (at + length a) → put_text (place t at a) (Ok (at + length a)) y ≡ put_text t (Ok at) (join (whole a) y)
      fits l =
          put_fits (place t at a) (at + length a) y (omega (arith, place_length t at a h))
          ∙ written_join y
          ∙ sym (put_fits t at (join (whole a) y) (omega (arith, same)))

      over : length t - (at + length a) < length (bytes y) → put_text (place t at a) (Ok (at + length a)) y ≡ put_text t (Ok at) (join (whole a) y)
      over l =
          put_none (place t at a) (at + length a) y (omega (arith, place_length t at a h))
          ∙ sym (put_none t at (join (whole a) y) (omega (arith, same)))

put_on_any : (t : List ℕ) (at : ℕ) (a : List ℕ) (y : Text) → length a ≤ length t - at → put_text (place t at a) (Ok (at + length a)) y ≡ put_text t (Ok at) (join (whole a) y)
put_on_any t at a y h = ⊎_elim (λ l. past (none_of a (omega arith))) (λ l. put_on t at a (omega arith) y) (cases_lt (length t) at)
  where
    past : a ≡ [] → put_text (place t at a) (Ok (at + length a)) y ≡ put_text t (Ok at) (join (whole a) y)
    past e =
        let z : at + length a ≡ at = omega (arith, ap length e) in
        ap (λ k. put_text (place t at a) (Ok k) y) z
        ∙ ap (λ b. put_text (place t at b) (Ok at) y) e
        ∙ ap (λ u. put_text u (Ok at) y) (place_none t at)
        ∙ sym (ap (put_text t (Ok at)) (ap (λ b. join (whole b) y) e ∙ join_none y))

-- a text that ends in a refusal is stopped wherever it is put, by that refusal or for want of room
pub cut_stopped : (t : List ℕ) (at : Placed) (a : List ℕ) (c : ℕ) → (k : ℕ) × (put_text t at (cut a c) ≡ stopped k)
unfolding bytes put_text
cut_stopped t (Err d) a c = (refusal_number d, refl)
cut_stopped t (Ok at) a c =
    ⊎_elim
    (λ m. (17, put_none t at (cut a c) m))
    (λ m. (c, put_fits t at (cut a c) m ∙ cut_is t at a c))
    (cases_lt (length t - at) (length a))

past_on : (t : List ℕ) (d : Refusal) (x y : Text) (n : Placed) (t' : List ℕ) → put_out n t' ≡ put_text t (Err d) x → put_text t' n y ≡ put_text t (Err d) (join x y)
unfolding put_text
past_on t d x y n t' e = stays t' n (refusal_number d) y e

-- what comes after x, from where x ended, is x and that
pub join_on : (t : List ℕ) (at : Placed) (x y : Text) (n : Placed) (t' : List ℕ) → put_out n t' ≡ put_text t at x → put_text t' n y ≡ put_text t at (join x y)
unfolding bytes join
join_on t (Err d) x y n t' e₁ = past_on t d x y n t' e₁
join_on t (Ok at) (cut a c) y n t' e₁ = let k = cut_stopped t (Ok at) a c in stays t' n k.0 y (e₁ ∙ k.1) ∙ sym k.1
join_on t (Ok at) (whole a) y n t' e₁ = ⊎_elim over fits (cases_lt (length t - at) (length a))
  where
    fits : length a ≤ length t - at → put_text t' n y ≡ put_text t (Ok at) (join (whole a) y)
    fits m =
        let w = went t' n (place t at a) (at + length a) (e₁ ∙ put_fits t at (whole a) m ∙ whole_is t at a) in
        rw (w.0, w.1) (put_on_any t at a y m)

    over : length t - at < length a → put_text t' n y ≡ put_text t (Ok at) (join (whole a) y)
    over m =
        stays t' n 17 y (e₁ ∙ put_none t at (whole a) m)
        ∙ sym (put_none t at (join (whole a) y) (omega (arith, ap length (bytes_join a y) ∙ length-append a (bytes y))))

pub put_join : (t : List ℕ) (at : Placed) (x y : Text) (n : Placed) (t' : List ℕ) (r : Placed) (u : List ℕ) → put_out n t' ≡ put_text t at x → put_out r u ≡ put_text t' n y → put_out r u ≡ put_text t at (join x y)
put_join t at x y n t' r u e₁ e₂ = e₂ ∙ join_on t at x y n t' e₁

-- the same, of two texts with no refusal
pub put_seq : (t : List ℕ) (at : Placed) (a b : List ℕ) (n : Placed) (t' : List ℕ) (r : Placed) (u : List ℕ) → put_out n t' ≡ put_text t at (whole a) → put_out r u ≡ put_text t' n (whole b) → put_out r u ≡ put_text t at (whole (a ++ b))
unfolding join
put_seq t at a b n t' r u e₁ e₂ = put_join t at (whole a) (whole b) n t' r u e₁ e₂

-- the same bytes, said in another way
pub put_same : (t : List ℕ) (at : Placed) (a b : List ℕ) (r : Placed) (u : List ℕ) → a ≡ b → put_out r u ≡ put_text t at (whole a) → put_out r u ≡ put_text t at (whole b)
put_same t at a b r u e p = rw e at p

-- no text
pub put_empty : (t : List ℕ) (at : Placed) → put_out at t ≡ put_text t at (whole [])
unfolding put_out bytes
put_empty t (Err c) = put_past t c (whole [])
put_empty t (Ok at) = ap₂ done (sym (place_none t at)) (omega arith) ∙ sym (put_fits t at (whole []) (omega arith) ∙ whole_is t at [])

-- where a first part stopped the writing, `?` hands on what stopped the whole
pub put_halts : (t : List ℕ) (at : Placed) (a b : List ℕ) (c : Refusal) (r : Placed) (u : List ℕ) → put_out (Err c) u ≡ put_text t at (whole a) → IsErrAnd r (λ e. e ≡ c) → put_out r u ≡ put_text t at (whole (a ++ b))
put_halts t at a b c r u e i = put_seq t at a b (Err c) u r u e (put_ended u r c (whole b) i)

-- ---- the code's steps

-- no bytes to write
pub put_no_bytes : (t : List ℕ) (at : ℕ) (s : List ℕ) → length s ≡ 0 → put_out (Ok at) t ≡ put_text t (Ok at) (whole s)
put_no_bytes t at s e = put_empty t (Ok at) ∙ ap (λ b. put_text t (Ok at) (whole b)) (sym (none_of s (omega arith)))

-- no room
pub put_full : (t : List ℕ) (at : ℕ) (s : List ℕ) → length t - at < length s → put_out (Err TextFull) t ≡ put_text t (Ok at) (whole s)
unfolding put_out bytes
put_full t at s h = sym (put_none t at (whole s) h)

-- a refusal
pub put_cut : (t : List ℕ) (at : ℕ) (c : Refusal) → put_out (Err c) t ≡ put_text t (Ok at) (cut [] (refusal_number c))
unfolding put_out bytes
put_cut t at c = sym (put_fits t at (cut [] (refusal_number c)) (omega arith) ∙ cut_is t at [] (refusal_number c))

-- bytes copied over a part of t are those bytes written
pub put_over : (t : List ℕ) (at : ℕ) (s : List ℕ) (k : ℕ) (u : List ℕ) → at + length s ≤ length t → k ≡ length s → u ≡ s → put_out (Ok (at + length s)) (put_mid at k t u) ≡ put_text t (Ok at) (whole s)
unfolding put_out bytes written
put_over t at s k u h e p =
    let o : put_mid at k t u ≡ paste t at s (length s) = put_mid-paste at k t u s (length s) p (sym e) refl in
    rw (o, put_fits t at (whole s) (omega arith)) (ap (λ (v : List ℕ). done (take at t ++ v ++ drop (at + length s) t) (at + length s)) (take-length s))

-- ---- tabs

-- as many tabs of the most that there are
pub tabs_taken : (lvl n : ℕ) → n ≡ min lvl 12 → take n (replicate 12 9) ≡ pfx lvl
unfolding pfx
tabs_taken lvl n e = take-replicate n 12 9 (omega arith) ∙ ap (λ (m : ℕ). replicate m 9) e

pub pfx_one : (lvl : ℕ) → lvl ≡ 1 → 9 ∷ [] ≡ pfx lvl
unfolding pfx
pfx_one lvl e = rw e refl

-- a text that ends in a refusal is stopped wherever it is put
pub cut_stops : (t : List ℕ) (at : Placed) (a : List ℕ) (c : ℕ) → is_stopped (put_text t at (cut a c)) ≡ true
unfolding is_stopped
cut_stops t at a c = ap is_stopped (cut_stopped t at a c).1

-- what the steps of writing cite
pub ruleset steps = (put_no_bytes, put_cut, put_full, put_over)
