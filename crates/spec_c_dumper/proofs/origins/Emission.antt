-- Emission with entries: with room for all of them it is the plain rule; in a list of c entries it is the same, or 17 where a line is begun that
-- has no room for its entry. Assumes nothing.
use Prim.Native.Nat.{ℕ, zero, suc, ◌+◌, ◌≤◌}
use mathlib.Core.Path.{◌≡◌, refl, ap, ◌∙◌, sym}
use mathlib.Core.Bool.{Bool, true, false, not, ◌&&◌, ◌||◌}
use mathlib.Core.List.{List, [], ◌∷◌, ◌++◌}
use mathlib.Core.Logic.{⊎_elim}
use native.Mathlib.Omega.{arith}
use lib.ListN.{length, length-append}
use lib.Dec.{eqb}
use borrow.Author.Tests.{lt-ltb, le-ltb}
use Rattle.std.proofs.lemmas.Bool.{cases_lt}
use Rattle.spec_c_dumper.specs.rules.Order.{Node, ignored, plain, listed, through, ptr, tdef, proto, comp, Table, Mark, new, busy, done}
use Rattle.spec_c_dumper.specs.rules.Machine.{Out, wrote, stuck, Machine, is_zero, pick, obind, eeach, once, mention, again, close, leaf, within, begin, allowed, look, emit}
use Rattle.spec_c_dumper.specs.origins.Causes.{Entry, entry, Traced, with_entries, up_to, always, line, cause_at, noting, emit_traced}
use Rattle.spec_c_dumper.specs.origins.Claims.{forget, Numbered, Lined}

abbrev size : {M : Type 0} → Traced M → ℕ
size s = length s.entries

module _ {M H : Type 0} (Z : Type 0) where
  pub lined_wrote : (s : Traced M) → Lined {H = H} Z (size s) (λ r. wrote s) (wrote s.mach)
  unfolding forget
  lined_wrote s = record { same = refl; need = size s; from = omega arith; fits = λ c l. refl; short = λ c l q. absurd (omega arith); counts = λ s' e. let z : size s' ≡ size s = cc in z; numbered = λ i h e. (let z : ◌≡◌ {A = ℕ} 0 1 = cc in omega arith) }

  abbrev out_number : ℕ → Out (Traced M) H → ℕ
  out_number d (wrote s) = d
  out_number d (stuck h e) = e

  lined_stuck : (h : H) (k e : ℕ) → Lined {M = M} Z k (λ r. stuck h (suc e)) (stuck h (suc e))
  unfolding forget
  lined_stuck h k e = record { same = refl; need = k; from = omega arith; fits = λ c l. refl; short = λ c l q. absurd (omega arith); counts = λ s' q. absurd (let z : ◌≡◌ {A = ℕ} 0 1 = cc in omega arith); numbered = λ i m q. let z : suc e ≡ 0 = ap (out_number 0) q in omega arith }

  -- ---- a line
  with_forget : (es : List Entry) (o : Out M H) → forget (with_entries es o) ≡ o
  unfolding with_entries forget
  with_forget es (wrote m) = refl
  with_forget es (stuck h e) = refl

  with_counts : (es : List Entry) (o : Out M H) (s : Traced M) → with_entries es o ≡ wrote s → size s ≡ length es
  unfolding with_entries
  with_counts es (wrote m) s e = let z : size s ≡ length es = cc in z
  with_counts es (stuck h c) s e = absurd (let z : ◌≡◌ {A = ℕ} 0 1 = cc in omega arith)

  with_no : (es : List Entry) (o : Out M H) → ((h : H) → o ≡ stuck h 0 → ⊥) → (h : H) → with_entries es o ≡ stuck h 0 → ⊥
  unfolding with_entries
  with_no es (wrote m) h m' e = let z : ◌≡◌ {A = ℕ} 0 1 = cc in omega arith
  with_no es (stuck m c) h m' e = h m (ap (stuck m) (ap (out_number 1) e))

  pub line_lined : (held : M → H) (shown : Bool) (e : Entry) (step : M → Out M H) → (Z → (m : M) (h : H) → step m ≡ stuck h 0 → ⊥) → (s : Traced M) → Lined Z (size s) (λ r. line held r shown e step s) (step s.mach)
  unfolding line
  line_lined held false e step h s = record {
    same = with_forget s.entries (step s.mach);
    need = size s;
    from = omega arith;
    fits = λ c l. refl;
    short = λ c l q. absurd (omega arith);
    counts = with_counts s.entries (step s.mach);
    numbered = λ i. with_no s.entries (step s.mach) (h i s.mach);
  }
  line_lined held true e step h s = record {
    same = with_forget (s.entries ++ (e ∷ [])) (step s.mach);
    need = size s + 1;
    from = omega arith;
    fits = λ c l. ap (λ (b : Bool). elim b as (λ (y : Bool). Out (Traced M) H) [ true ↦ with_entries (s.entries ++ (e ∷ [])) (step s.mach) | false ↦ stuck (held s.mach) 17 ]) (lt-ltb (size s) c (omega arith));
    short = λ c l q. (held s.mach, ap (λ (b : Bool). elim b as (λ (y : Bool). Out (Traced M) H) [ true ↦ with_entries (s.entries ++ (e ∷ [])) (step s.mach) | false ↦ stuck (held s.mach) 17 ]) (le-ltb (size s) c (omega arith)));
    counts = λ s' q. with_counts (s.entries ++ (e ∷ [])) (step s.mach) s' q ∙ length-append s.entries (e ∷ []);
    numbered = λ i. with_no (s.entries ++ (e ∷ [])) (step s.mach) (h i s.mach);
  }

  -- ---- one after another
  module _ (k : ℕ) (F : (ℕ → Bool) → Out (Traced M) H) (P : Out M H) (h : Lined Z k F P) (g : (ℕ → Bool) → Traced M → Out (Traced M) H) (p : M → Out M H) (hg : (s : Traced M) → Lined Z (size s) (λ r. g r s) (p s.mach)) where
    abbrev next : (ℕ → Bool) → Out (Traced M) H
    next r = obind (F r) (g r)

    wrote_next : (r : ℕ → Bool) (s : Traced M) → F r ≡ wrote s → next r ≡ g r s
    unfolding obind
    wrote_next r s e = ap (λ (o : Out (Traced M) H). obind o (g r)) e

    stuck_next : (r : ℕ → Bool) (m : H) (e : ℕ) → F r ≡ stuck m e → next r ≡ stuck m e
    unfolding obind
    stuck_next r m e q = ap (λ (o : Out (Traced M) H). obind o (g r)) q

    bind_forgets : (o : Out (Traced M) H) → forget (obind o (g always)) ≡ obind (forget o) p
    unfolding obind forget
    bind_forgets (wrote s) = (hg s).same
    bind_forgets (stuck m e) = refl

    plain_next : forget (next always) ≡ obind P p
    plain_next = bind_forgets (F always) ∙ ap (λ (o : Out M H). obind o p) h.same

    bind_by : (o : Out (Traced M) H) → F always ≡ o → Lined Z k next (obind P p)
    bind_by (wrote s) e =
        let n : size s ≡ h.need = h.counts s e in
        let i : k ≤ h.need = h.from in
        let j : size s ≤ (hg s).need = (hg s).from in
        record {
          same = plain_next;
          need = (hg s).need;
          from = omega arith;
          fits = λ c l. wrote_next (up_to c) s (h.fits c (omega arith) ∙ e) ∙ (hg s).fits c l ∙ sym (wrote_next always s e);
          short = λ c l q. ⊎_elim (λ t. ((h.short c l t).0, stuck_next (up_to c) (h.short c l t).0 17 (h.short c l t).1)) (λ t. (((hg s).short c (omega arith) q).0, wrote_next (up_to c) s (h.fits c t ∙ e) ∙ ((hg s).short c (omega arith) q).1)) (cases_lt c h.need);
          counts = λ s' q. (hg s).counts s' (sym (wrote_next always s e) ∙ q);
          numbered = λ i m q. (hg s).numbered i m (sym (wrote_next always s e) ∙ q);
        }
    bind_by (stuck m c) e = record {
      same = plain_next;
      need = h.need;
      from = h.from;
      fits = λ c' l. stuck_next (up_to c') m c (h.fits c' l ∙ e) ∙ sym (stuck_next always m c e);
      short = λ c' l q. ((h.short c' l q).0, stuck_next (up_to c') (h.short c' l q).0 17 (h.short c' l q).1);
      counts = λ s' q. let t : stuck m c ≡ wrote s' = sym (stuck_next always m c e) ∙ q in absurd (let z : ◌≡◌ {A = ℕ} 0 1 = cc in omega arith);
      numbered = λ i m' q. h.numbered i m' (e ∙ sym (stuck_next always m c e) ∙ q);
    }

    pub lined_bind : Lined Z k next (obind P p)
    lined_bind = bind_by (F always) refl

  module _ (f : (ℕ → Bool) → Traced M → ℕ → Out (Traced M) H) (g : M → ℕ → Out M H) (h : (s : Traced M) (y : ℕ) → Lined Z (size s) (λ r. f r s y) (g s.mach y)) where
    pub each_lined : (ys : List ℕ) (s : Traced M) → Lined Z (size s) (λ r. eeach (f r) ys s) (eeach g ys s.mach)
    unfolding eeach
    each_lined [] s = lined_wrote s
    each_lined (y ∷ ys) s = lined_bind (size s) (λ r. f r s y) (g s.mach y) (h s y) (λ r. eeach (f r) ys) (eeach g ys) (λ s'. each_lined ys s')

-- ---- the clauses of emission
module _ {M H : Type 0} (X : Machine M H) (shows : ℕ → Bool) (why : ℕ → Entry) (T : Table) where
  abbrev Z : Type 0
  Z = Numbered X

  module _ (x cont : ℕ) where
    abbrev N : (ℕ → Bool) → Machine (Traced M) H
    N r = noting X r shows why cont

    abbrev marked : Mark → Traced M → Traced M
    marked m s = record { mach = X.emark m x s.mach; entries = s.entries }

    once_lined : (w : (ℕ → Bool) → Traced M → ℕ → Out (Traced M) H) (w' : M → ℕ → Out M H) → ((s : Traced M) → Lined Z (size s) (λ r. w r s x) (w' s.mach x)) → (b : Bool) (s : Traced M)
        → Lined Z (size s) (λ r. once (N r) T (w r) x b s) (once X T w' x b s.mach)
    unfolding once
    once_lined w w' h true s = lined_wrote Z s
    once_lined w w' h false s =
        lined_bind Z (size s) (λ r. w r s x) (w' s.mach x) (h s) (λ r s'. wrote (record { mach = X.forwarded x s'.mach; entries = s'.entries })) (λ m. wrote (X.forwarded x m))
        (λ s'. lined_wrote Z (record { mach = X.forwarded x s'.mach; entries = s'.entries }))

    fwd_lined : (b : Bool) (s : Traced M) → Lined Z (size s) (λ r. once (N r) T (N r).fwd_line x b s) (once X T X.fwd_line x b s.mach)
    fwd_lined b s = once_lined (λ r. (N r).fwd_line) X.fwd_line (λ s'. line_lined Z X.held (shows x) (entry x 2 cont) (λ m. X.fwd_line m x) (λ nz m. nz.fwd_no m x) s') b s

    alias_lined : (b : Bool) (s : Traced M) → Lined Z (size s) (λ r. once (N r) T (N r).alias_line x b s) (once X T X.alias_line x b s.mach)
    alias_lined b s = once_lined (λ r. (N r).alias_line) X.alias_line (λ s'. line_lined Z X.held (shows x) (cause_at 3 (why x) x cont) (λ m. X.alias_line m x) (λ nz m. nz.alias_no m x) s') b s

    mention_lined : (b nm : Bool) (s : Traced M) → Lined Z (size s) (λ r. mention (N r) T b nm x s) (mention X T b nm x s.mach)
    unfolding mention
    mention_lined true nm s = lined_wrote Z s
    mention_lined false true s = fwd_lined false s
    mention_lined false false s = lined_stuck Z (X.held s.mach) (size s) 12

    again_lined : (s : Traced M) (nd : Node) → Lined Z (size s) (λ r. again (N r) T s x cont nd) (again X T s.mach x cont nd)
    unfolding again
    again_lined s ignored = lined_wrote Z s
    again_lined s plain = lined_wrote Z s
    again_lined s (listed f) = lined_wrote Z s
    again_lined s (through a t) = lined_wrote Z s
    again_lined s (ptr t) = lined_wrote Z s
    again_lined s (tdef t) = alias_lined (X.has_fwd s.mach x) s
    again_lined s (proto ts) = lined_wrote Z s
    again_lined s (comp ms) = mention_lined (X.has_fwd s.mach x || eqb x cont) (T.named x) s

    close_lined : (top : Bool) (s : Traced M) → Lined Z (size s) (λ r. close (N r) T top x s) (close X T top x s.mach)
    unfolding close
    close_lined true s =
        lined_bind Z (size s) (λ r. (N r).body s x) (X.body s.mach x) (line_lined Z X.held true (why x) (λ m. X.body m x) (λ nz m. nz.body_no m x) s) (λ r s'. wrote (marked done s')) (λ m. wrote (X.emark done x m)) (λ s'. lined_wrote Z (marked done s'))
    close_lined false s = lined_wrote Z (marked new s)

    leaf_lined : (b : Bool) (s : Traced M) → Lined Z (size s) (λ r. leaf (N r) T b x s) (leaf X T b x s.mach)
    unfolding leaf
    leaf_lined true s =
        lined_bind Z (size s) (λ r. (N r).leaf_line s x) (X.leaf_line s.mach x) (line_lined Z X.held true (cause_at 2 (why x) x cont) (λ m. X.leaf_line m x) (λ nz m. nz.leaf_no m x) s) (λ r s'. wrote (marked done s')) (λ m. wrote (X.emark done x m))
        (λ s'. lined_wrote Z (marked done s'))
    leaf_lined false s = lined_wrote Z (marked done s)

    module _ (rec : (ℕ → Bool) → Traced M → ℕ → ℕ → Out (Traced M) H) (rec' : M → ℕ → ℕ → Out M H) (h : (s : Traced M) (y c : ℕ) → Lined Z (size s) (λ r. rec r s y c) (rec' s.mach y c)) (s : Traced M) where
      within_lined : (b nm : Bool) (ms : List ℕ) → Lined Z (size s) (λ r. within (N r) T (rec r) s x cont b nm ms) (within X T rec' s.mach x cont b nm ms)
      unfolding within
      within_lined true nm ms = each_lined Z (λ r s' y. rec r s' y (pick nm x cont)) (λ m y. rec' m y (pick nm x cont)) (λ s' y. h s' y (pick nm x cont)) ms (marked busy s)
      within_lined false nm ms = fwd_lined (X.has_fwd s.mach x || eqb x cont) (marked busy s)

      begin_lined : (top : Bool) (nd : Node) → Lined Z (size s) (λ r. begin (N r) T (rec r) s x cont top nd) (begin X T rec' s.mach x cont top nd)
      unfolding begin
      begin_lined top ignored = lined_wrote Z s
      begin_lined top plain = lined_wrote Z s
      begin_lined top (listed f) = leaf_lined (f || top) s
      begin_lined top (through a t) = h s t cont
      begin_lined top (ptr t) = h s t cont
      begin_lined top (tdef t) =
          lined_bind Z (size s) (λ r. rec r (marked busy s) t x) (rec' (X.emark busy x s.mach) t x) (h (marked busy s) t x)
          (λ r s'. obind (once (N r) T (N r).alias_line x (X.has_fwd s'.mach x) s') (λ s''. wrote (marked done s'')))
          (λ m. obind (once X T X.alias_line x (X.has_fwd m x) m) (λ m'. wrote (X.emark done x m')))
          (λ s'. lined_bind Z (size s') (λ r. once (N r) T (N r).alias_line x (X.has_fwd s'.mach x) s') (once X T X.alias_line x (X.has_fwd s'.mach x) s'.mach) (alias_lined (X.has_fwd s'.mach x) s')
          (λ r s''. wrote (marked done s'')) (λ m'. wrote (X.emark done x m')) (λ s''. lined_wrote Z (marked done s'')))
      begin_lined top (proto ts) = each_lined Z (λ r s' y. rec r s' y cont) (λ m y. rec' m y cont) (λ s' y. h s' y cont) ts s
      begin_lined top (comp ms) =
          lined_bind Z (size s) (λ r. within (N r) T (rec r) s x cont (top || not (T.named x)) (T.named x) ms) (within X T rec' s.mach x cont (top || not (T.named x)) (T.named x) ms)
          (within_lined (top || not (T.named x)) (T.named x) ms) (λ r. close (N r) T top x) (close X T top x) (λ s'. close_lined top s')

      allowed_lined : (b : Bool) → Lined Z (size s) (λ r. allowed (N r) T (rec r) s x cont b) (allowed X T rec' s.mach x cont b)
      unfolding allowed
      allowed_lined true = lined_stuck Z (X.held s.mach) (size s) 13
      allowed_lined false = begin_lined (is_zero cont) (T.node x)

      look_lined : (m : Mark) → Lined Z (size s) (λ r. look (N r) T (rec r) s x cont m) (look X T rec' s.mach x cont m)
      unfolding look
      look_lined new = allowed_lined (is_zero cont && not (T.named x))
      look_lined busy = again_lined s (T.node x)
      look_lined done = lined_wrote Z s

  -- THE THEOREM of emission
  pub emit_lined : (n : ℕ) (s : Traced M) (x cont : ℕ) → Lined Z (size s) (λ r. emit_traced X r shows why T n s x cont) (emit X T n s.mach x cont)
  unfolding emit_traced emit
  emit_lined zero s x cont = lined_stuck Z (X.held s.mach) (size s) 11
  emit_lined (suc n) s x cont = look_lined x cont (λ r s' y c. emit_traced X r shows why T n s' y c) (λ m y c. emit X T n m y c) (λ s' y c. emit_lined n s' y c) s (X.eget s.mach x)
