-- Laws for code that writes text and keeps names: one writer after another, in a lent text. Assumes nothing.
use Prim.Native.Nat.{ℕ, zero, suc, ◌+◌, ◌-◌, ◌<◌, ◌≤◌}
use mathlib.Core.Path.{◌≡◌, refl, ap, ap₂, ◌∙◌, sym}
use mathlib.Core.Bool.{true, false}
use mathlib.Core.List.{List, [], ◌∷◌, ◌++◌}
use mathlib.Core.Logic.{⊎_elim}
use native.Mathlib.Omega.{arith}
use lib.ListN.{length, get_or, length-append}
use Rattle.std.specs.Prelude.{Ok, Err, IsErrAnd}
use Rattle.std.proofs.lemmas.Bool.{cases_lt}
use Rattle.std.proofs.lemmas.List.{map-append, get_or_append_left, get_or-append_right, get_or_default}
use borrow.Author.Tests.{le-leb, lt-leb}
use Rattle.spec_bytes.specs.Refusals.{refusal_number}
use Rattle.spec_bytes.specs.declared.refusal.Refusal.{Refusal}
use Rattle.spec_bytes.specs.text.Text.{Text, whole, cut, join, bytes}
use Rattle.spec_bytes.specs.text.Placed.{Out, done, stopped, Placed, place, written, put_out, put_text}
use Rattle.spec_bytes.proofs.text.TextLaws.{went, put_fits, put_none, put_empty, whole_is, place_length, place_none, none_of, bytes_join, join_on}
use Rattle.spec_c_dumper.specs.rules.Writer.{reserve_passed, Ask, got, no, Said, said, said_text, said_names, said_held, Writer, held_by, after, next, put, stop, given, ◌⨾◌}
use Rattle.spec_c_dumper.specs.rules.Place.{wrote, refused, with_names, out_held, put_here, put_held}
use Rattle.spec_c_dumper.specs.rules.Names.{Resolved, resolving}
use Rattle.spec_c_dumper.proofs.rules.Held.{EachHas, resolved_over, resolved_within}
use Rattle.spec_c_dumper.proofs.rules.Keeps.{Kept}

same_long : (t : List ℕ) (at : ℕ) (a : List ℕ) → length a ≤ length t - at → length (place t at a) ≡ length t
same_long t at a h = ⊎_elim (λ l. past (none_of a (omega arith))) (λ l. place_length t at a (omega arith)) (cases_lt (length t) at)
  where
    past : a ≡ [] → length (place t at a) ≡ length t
    past e = ap (λ b. length (place t at b)) e ∙ ap length (place_none t at)

joined_length : (a : List ℕ) (y : Text) → length (bytes (join (whole a) y)) ≡ length a + length (bytes y)
joined_length a y = ap length (bytes_join a y) ∙ length-append a (bytes y)

each_same : {U : Type 0} (u : U) (a : List ℕ) (i : ℕ) → get_or (held_by u a) i u ≡ u
each_same u [] i = refl
each_same u (b ∷ a) zero = refl
each_same u (b ∷ a) (suc i) = each_same u a i

module _ {U : Type 0} where
  -- in two prints, with no name taken in between, as in one
  pub put_put : (a b : List ℕ) (u : U) → (put a ⨾ put b) u ≡ put (a ++ b) u
  unfolding ◌⨾◌ next after put join
  put_put a b u = ap (said u (whole (a ++ b))) (sym (map-append (λ (x : ℕ). u) a b))

  pub put_split : (a b : List ℕ) (w : Writer U) (u : U) → put b u ≡ w u → put (a ++ b) u ≡ (put a ⨾ w) u
  unfolding ◌⨾◌ next put
  put_split a b w u e = sym (put_put a b u) ∙ ap (after a (held_by u a)) e

wrote_refused : {U H : Type 0} (t : List ℕ) (n : ℕ) (u : U) (h : H) (c : ℕ) → wrote t n u ≡ refused h c → ⊥
wrote_refused t n u h c e = let z : ◌≡◌ {A = ℕ} 0 1 = cc in omega arith

-- held: what is told of the names after a refusal
module _ {U H : Type 0} (held : U → H) where
  same_done : (u v : U) (o : Out) (t : List ℕ) (n : ℕ) → with_names held u o ≡ wrote t n v → (o ≡ done t n) × (u ≡ v)
  unfolding with_names
  same_done u v (done t' n') t n e = let p : t' ≡ t = cc in let q : n' ≡ n = cc in ((λ i. done (p i) (q i)), cc)
  same_done u v (stopped d) t n e = absurd (wrote_refused t n v (held u) d (sym e))

  -- ---- the cases
  here_fits : (t : List ℕ) (at : ℕ) (u : U) (x : Text) (k : List U) → length (bytes x) ≤ length t - at → put_here held t at (said u x k) ≡ with_names held u (put_text t (Ok at) x)
  unfolding put_here
  here_fits t at u x k h = rw (put_here, le-leb (length (bytes x)) (length t - at) h) (ap (with_names held u) (sym (put_fits t at x h)))

  here_over : (t : List ℕ) (at : ℕ) (u : U) (x : Text) (k : List U) → length t - at < length (bytes x) → put_here held t at (said u x k) ≡ refused (held (get_or k (length t - at) u)) 17
  unfolding put_here
  here_over t at u x k h = rw (put_here, lt-leb (length (bytes x)) (length t - at) h) refl

  here_whole : (t : List ℕ) (at : ℕ) (u : U) (a : List ℕ) (k : List U) → length a ≤ length t - at → put_here held t at (said u (whole a) k) ≡ wrote (place t at a) (at + length a) u
  unfolding bytes with_names
  here_whole t at u a k h = here_fits t at u (whole a) k h ∙ ap (with_names held u) (put_fits t at (whole a) h ∙ whole_is t at a)

  -- what ends in a refusal is refused, wherever it is put
  here_cut : (t : List ℕ) (at : ℕ) (u : U) (a : List ℕ) (c : ℕ) (k : List U) → (h : H) × (d : ℕ) × (put_here held t at (said u (cut a c) k) ≡ refused h d)
  unfolding bytes with_names written
  here_cut t at u a c k =
      ⊎_elim
      (λ m. (held (get_or k (length t - at) u), 17, here_over t at u (cut a c) k m))
      (λ m. (held u, c, here_fits t at u (cut a c) k m ∙ ap (with_names held u) (put_fits t at (cut a c) m)))
      (cases_lt (length t - at) (length a))

  -- ---- one print
  -- a function that writes text only, and says nothing of names: at each byte they are the same
  pub text_only : (t : List ℕ) (at : Placed) (x : Text) (u : U) (r : Placed) (t' : List ℕ) → put_out r t' ≡ put_text t at x → out_held held r t' u ≡ put_held held t at (λ v. said v x (held_by v (bytes x))) u
  unfolding out_held put_held put_text with_names
  text_only t (Err c) x u r t' e = ap (with_names held u) e
  text_only t (Ok at) x u r t' e =
      ap (with_names held u) e
      ∙ ⊎_elim
      (λ m.
      ap (with_names held u) (put_none t at x m)
      ∙ ap (λ v. refused (held v) 17) (sym (each_same u (bytes x) (length t - at)))
      ∙ sym (here_over t at u x (held_by u (bytes x)) m))
      (λ m. sym (here_fits t at u x (held_by u (bytes x)) m))
      (cases_lt (length t - at) (length (bytes x)))

  pub put_only : (t : List ℕ) (at : Placed) (a : List ℕ) (u : U) (r : Placed) (t' : List ℕ) → put_out r t' ≡ put_text t at (whole a) → out_held held r t' u ≡ put_held held t at (put a) u
  unfolding put bytes
  put_only t at a u r t' e = text_only t at (whole a) u r t' e

  pub stop_only : (t : List ℕ) (at : Placed) (c : ℕ) (u : U) (r : Placed) (t' : List ℕ) → put_out r t' ≡ put_text t at (cut [] c) → out_held held r t' u ≡ put_held held t at (stop c) u
  unfolding stop bytes
  stop_only t at c u r t' e = text_only t at (cut [] c) u r t' e

  -- nothing written
  pub put_nothing : (t : List ℕ) (at : Placed) (u : U) → out_held held at t u ≡ put_held held t at (put []) u
  put_nothing t at u = put_only t at [] u at t (put_empty t at)

  -- ---- after a refusal
  -- nothing is written, whatever the writer, and the names stay
  pub said_past : (t : List ℕ) (c : Refusal) (w : Writer U) (u : U) → out_held held (Err c) t u ≡ put_held held t (Err c) w u
  unfolding out_held put_held with_names put_out
  said_past t c w u = refl

  -- so `?` hands on what stopped the writing
  pub said_ended : (t : List ℕ) (r : Placed) (c : Refusal) (w : Writer U) (u : U) → IsErrAnd r (λ e. e ≡ c) → out_held held r t u ≡ put_held held t (Err c) w u
  said_ended t (Ok n) c w u e = absurd e
  said_ended t (Err d) c w u e = ap (λ k. out_held held (Err k) t u) e ∙ said_past t c w u

  -- what was stopped stays so
  pub said_stays : (t : List ℕ) (n : Placed) (w : Writer U) (u : U) (h : H) (c : ℕ) → out_held held n t u ≡ refused h c → put_held held t n w u ≡ refused h c
  unfolding out_held put_held with_names put_out
  said_stays t (Ok n) w u h c e = absurd (wrote_refused t n u h c e)
  said_stays t (Err d) w u h c e = e

  -- where the writing has come to a place, the names are those that the writer left
  pub names_left : (t : List ℕ) (at : Placed) (w : Writer U) (u : U) (n : ℕ) (t' : List ℕ) (u' : U) → out_held held (Ok n) t' u' ≡ put_held held t at w u → u' ≡ said_names (w u)
  unfolding out_held put_held with_names put_out said_names bytes
  names_left t (Err c) w u n t' u' e = absurd (wrote_refused t' n u' (held u) (refusal_number c) e)
  names_left t (Ok at) w u n t' u' e = go (w u) e
    where
      go : (s : Said U) → wrote t' n u' ≡ put_here held t at s → u' ≡ said_names s
      go (said v (cut a c) k) q = let z = here_cut t at v a c k in absurd (wrote_refused t' n u' z.0 z.1 (q ∙ z.2))
      go (said v (whole a) k) q =
          ⊎_elim
          (λ m. absurd (wrote_refused t' n u' (held (get_or k (length t - at) v)) 17 (q ∙ here_over t at v (whole a) k m)))
          (λ m. let p : wrote t' n u' ≡ wrote (place t at a) (at + length a) v = q ∙ here_whole t at v a k m in cc)
          (cases_lt (length t - at) (length a))

  -- ---- one writer after another
  module _ (t : List ℕ) (at : ℕ) (x : U) (a : List ℕ) (k : List U) (each : length k ≡ length a) where
    -- where the first does not fit, the names are those of its own stop
    over_after : (s : Said U) → length t - at < length a → refused (held (get_or k (length t - at) x)) 17 ≡ put_here held t at (after a k s)
    unfolding after
    over_after (said y b l) m =
        ap (λ v. refused (held v) 17)
        (get_or_default k (length t - at) x y (omega (arith, each, m)) ∙ sym (get_or_append_left k l y (length t - at) (omega (arith, each, m))))
        ∙ sym (here_over t at y (join (whole a) b) (k ++ l) (omega (arith, joined_length a b, m)))

    -- where it does, the second is written from there
    fits_after : (s : Said U) → length a ≤ length t - at → put_here held (place t at a) (at + length a) s ≡ put_here held t at (after a k s)
    unfolding after put_out bytes
    fits_after (said y b l) m = ⊎_elim over fits (cases_lt (length t - (at + length a)) (length (bytes b)))
      where
        long : length (place t at a) ≡ length t
        long = same_long t at a m

        fits : length (bytes b) ≤ length t - (at + length a) → put_here held (place t at a) (at + length a) (said y b l) ≡ put_here held t at (said y (join (whole a) b) (k ++ l))
        fits h =
            here_fits (place t at a) (at + length a) y b l (omega (arith, long, h))
            ∙ ap (with_names held y) (join_on t (Ok at) (whole a) b (Ok (at + length a)) (place t at a) (sym (put_fits t at (whole a) m ∙ whole_is t at a)))
            ∙ sym (here_fits t at y (join (whole a) b) (k ++ l) (omega (arith, joined_length a b, h, m)))

        over : length t - (at + length a) < length (bytes b) → put_here held (place t at a) (at + length a) (said y b l) ≡ put_here held t at (said y (join (whole a) b) (k ++ l))
        over h =
            let d : length (place t at a) - (at + length a) ≡ (length t - at) - length a = omega (arith, long) in
            here_over (place t at a) (at + length a) y b l (omega (arith, long, h))
            ∙ ap (λ i. refused (held (get_or l i y)) 17) d
            ∙ ap (λ v. refused (held v) 17) (sym (get_or-append_right k l (length a) (length t - at) y each m))
            ∙ sym (here_over t at y (join (whole a) b) (k ++ l) (omega (arith, joined_length a b, h, m)))

  -- The law that composes emitters: call v, then w.
  pub put_then : (t : List ℕ) (at : Placed) (v w : Writer U) (u : U) (n : Placed) (t' : List ℕ) (u' : U) (r : Placed) (t'' : List ℕ) (u'' : U)
      → EachHas (v u) → out_held held n t' u' ≡ put_held held t at v u → out_held held r t'' u'' ≡ put_held held t' n w u' → out_held held r t'' u'' ≡ put_held held t at (v ⨾ w) u
  unfolding put_held out_held ◌⨾◌ next bytes said_held said_text
  put_then t (Err c) v w u n t' u' r t'' u'' each e₁ e₂ = e₂ ∙ said_stays t' n w u' (held u) (refusal_number c) e₁
  put_then t (Ok at) v w u n t' u' r t'' u'' each e₁ e₂ = go (v u) each e₁
    where
      go : (s : Said U) → EachHas s → out_held held n t' u' ≡ put_here held t at s → out_held held r t'' u'' ≡ put_here held t at (next s w)
      go (said x (cut a c) k) h e = let z = here_cut t at x a c k in e₂ ∙ said_stays t' n w u' z.0 z.1 (e ∙ z.2) ∙ sym z.2
      go (said x (whole a) k) h e = ⊎_elim over fits (cases_lt (length t - at) (length a))
        where
          over : length t - at < length a → out_held held r t'' u'' ≡ put_here held t at (after a k (w x))
          over m = e₂ ∙ said_stays t' n w u' (held (get_or k (length t - at) x)) 17 (e ∙ here_over t at x (whole a) k m) ∙ over_after t at x a k h (w x) m

          fits : length a ≤ length t - at → out_held held r t'' u'' ≡ put_here held t at (after a k (w x))
          fits m =
              let o = same_done u' x (put_out n t') (place t at a) (at + length a) (e ∙ here_whole t at x a k m) in
              let g = went t' n (place t at a) (at + length a) o.0 in
              e₂ ∙ (λ i. put_held held (g.0 i) (g.1 i) w (o.1 i)) ∙ fits_after t at x a k h (w x) m

  -- what is written from where v ended does not tell u from the names that v left, if P does not
  kept_on : {X : Type 0} → (P : U → X) (w : X → Writer U) (t : List ℕ) (at : Placed) (v : Writer U) (u : U) (n : Placed) (t' : List ℕ) (u' : U)
      → P (said_names (v u)) ≡ P u → out_held held n t' u' ≡ put_held held t at v u → put_held held t' n (w (P u')) u' ≡ put_held held t' n (w (P u)) u'
  unfolding put_held
  kept_on P w t at v u (Err c) t' u' k e = refl
  kept_on P w t at v u (Ok n) t' u' k e = ap (λ p. put_held held t' (Ok n) (w p) u') (ap P (names_left t at v u n t' u' e) ∙ k)

  -- The same, where the second writer is what it is by something that the first leaves alone (the type table in the work).
  pub put_then_kept : {X : Type 0} → (P : U → X) (w : X → Writer U) (t : List ℕ) (at : Placed) (v : Writer U) (u : U) (n : Placed) (t' : List ℕ) (u' : U) (r : Placed) (t'' : List ℕ) (u'' : U)
      → Kept P u (v u) → out_held held n t' u' ≡ put_held held t at v u → out_held held r t'' u'' ≡ put_held held t' n (w (P u')) u' → out_held held r t'' u'' ≡ put_held held t at (v ⨾ w (P u)) u
  put_then_kept P w t at v u n t' u' r t'' u'' k e₁ e₂ = put_then t at v (w (P u)) u n t' u' r t'' u'' k.1 e₁ (e₂ ∙ kept_on P w t at v u n t' u' k.0 e₁)

  -- ---- writers that say the same
  pub said_alike : (t : List ℕ) (at : Placed) (v w : Writer U) (u : U) → v u ≡ w u → put_held held t at v u ≡ put_held held t at w u
  unfolding put_held
  said_alike t (Ok at) v w u e = ap (put_here held t at) e
  said_alike t (Err c) v w u e = refl

  -- from other names; in a place that was refused these are told
  pub said_moved : (t : List ℕ) (at : Placed) (v w : Writer U) (u u' : U) → held u ≡ held u' → v u ≡ w u' → put_held held t at v u ≡ put_held held t at w u'
  unfolding put_held
  said_moved t (Ok at) v w u u' h e = ap (put_here held t at) e
  said_moved t (Err c) v w u u' h e = ap (λ x. refused x (refusal_number c)) h

  -- a writer with the version that a name gets, which does not pass: its own outcome is from the names after that
  pub put_resolved : (t : List ℕ) (at : ℕ) (f : U → Resolved U) (k : ℕ → Writer U) (u : U) (v : ℕ) (u' : U) (r : Placed) (t'' : List ℕ) (u'' : U)
      → (f u).passes ≡ false → v ≡ (f u).version → u' ≡ (f u).names → out_held held r t'' u'' ≡ put_held held t (Ok at) (k v) u' → out_held held r t'' u'' ≡ put_held held t (Ok at) (resolving f k) u
  unfolding put_held
  put_resolved t at f k u v u' r t'' u'' ep ev eu e = e ∙ ap₂ (λ (a : ℕ) (b : U). put_here held t at (k a b)) ev eu ∙ ap (put_here held t at) (resolved_within f k u ep)

  -- or, where it passes, the refusal's
  pub put_passed : (t : List ℕ) (at : ℕ) (f : U → Resolved U) (k : ℕ → Writer U) (u : U) (r : Placed) (t'' : List ℕ) (u'' : U)
      → (f u).passes ≡ true → out_held held r t'' u'' ≡ put_held held t (Ok at) (stop reserve_passed) u → out_held held r t'' u'' ≡ put_held held t (Ok at) (resolving f k) u
  unfolding put_held
  put_passed t at f k u r t'' u'' ep e = e ∙ ap (put_here held t at) (resolved_over f k u ep)

  -- a writer with a value that was asked for
  pub put_given : {A : Type 0} → (t : List ℕ) (at : Placed) (k : A → Writer U) (u : U) (a : A) (x : Ask A) (r : Placed) (t'' : List ℕ) (u'' : U)
      → x ≡ got a → out_held held r t'' u'' ≡ put_held held t at (k a) u → out_held held r t'' u'' ≡ put_held held t at (given x k) u
  unfolding given
  put_given t at k u a x r t'' u'' ex e = e ∙ ap (λ y. put_held held t at (given y k) u) (sym ex)

  -- or its refusal
  pub put_refused : {A : Type 0} → (t : List ℕ) (at : Placed) (k : A → Writer U) (u : U) (c : ℕ) (x : Ask A) (r : Placed) (t'' : List ℕ) (u'' : U)
      → x ≡ no c → out_held held r t'' u'' ≡ put_held held t at (stop c) u → out_held held r t'' u'' ≡ put_held held t at (given x k) u
  unfolding given
  put_refused t at k u c x r t'' u'' ex e = e ∙ ap (λ y. put_held held t at (given y k) u) (sym ex)
