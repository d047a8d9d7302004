-- Emission with entries over two machines whose steps go alike: the same entries, in the same order, and 17 for the same line. Assumes nothing.
use Prim.Native.Nat.{ℕ, zero, suc, ◌<◌}
use mathlib.Core.Path.{◌≡◌, ap, sym, subst}
use mathlib.Core.Bool.{Bool, true, false}
use mathlib.Core.List.{List, [], ◌∷◌, ◌++◌, Memᴰ}
use lib.ListN.{length}
use Rattle.spec_c_dumper.specs.rules.Order.{Table, Mark}
use Rattle.spec_c_dumper.specs.rules.Machine.{Out, stuck, Machine, look}
use Rattle.spec_c_dumper.specs.needs.Needs.{kids}
use Rattle.spec_c_dumper.proofs.needs.Alike.{BothOut, both_wrote, both_stuck}
use Rattle.spec_c_dumper.proofs.needs.Emission.{AlikeSteps, eeach_alike, look_alike}
use Rattle.spec_c_dumper.specs.origins.Causes.{Entry, entry, Traced, with_entries, line, cause_at, noting, emit_traced, each_listed}

-- machines in Q, and the same entries
pub record SameNoted {M₁ M : Type 0} (Q : M₁ → M → Type 0) (s : Traced M₁) (t : Traced M) : Type 0 where
  pub related : Q s.mach t.mach
  pub same_entries : s.entries ≡ t.entries

module _ {M₁ H₁ M H : Type 0} (X₁ : Machine M₁ H₁) (X : Machine M H) (T : Table) (below : (x y : ℕ) → Memᴰ y (kids (T.node x)) → y < T.count) (Q : M₁ → M → Type 0)
    (RH : H₁ → H → Type 0) (al : AlikeSteps X₁ X T.count Q RH) (more shows : ℕ → Bool) (why : ℕ → Entry) where
  abbrev N : Traced M₁ → Traced M → Type 0
  N = SameNoted Q

  said_alike : (fs es : List Entry) → fs ≡ es → {o₁ : Out M₁ H₁} {o : Out M H} → BothOut Q RH o₁ o → BothOut N RH (with_entries fs o₁) (with_entries es o)
  unfolding with_entries
  said_alike fs es e (both_wrote s t q) = both_wrote (record { mach = s; entries = fs }) (record { mach = t; entries = es }) (record { related = q; same_entries = e })
  said_alike fs es e (both_stuck m₁ m r c) = both_stuck m₁ m r c

  line_alike : (shown : Bool) (d : Entry) (f₁ : M₁ → Out M₁ H₁) (f : M → Out M H) (s : Traced M₁) (t : Traced M) → N s t → BothOut Q RH (f₁ s.mach) (f t.mach) → BothOut N RH (line X₁.held more shown d f₁ s) (line X.held more shown d f t)
  unfolding line
  line_alike false d f₁ f s t q h = said_alike s.entries t.entries q.same_entries h
  line_alike true d f₁ f s t q h =
      subst (λ (b : Bool). BothOut N RH (elim b as (λ z. Out (Traced M₁) H₁) [ true ↦ with_entries (s.entries ++ (d ∷ [])) (f₁ s.mach) | false ↦ stuck (X₁.held s.mach) 17 ])
      (elim (more (length t.entries)) as (λ z. Out (Traced M) H) [ true ↦ with_entries (t.entries ++ (d ∷ [])) (f t.mach) | false ↦ stuck (X.held t.mach) 17 ])) (ap (λ (k : List Entry). more (length k)) (sym q.same_entries)) (go (more (length t.entries)))
    where
      go : (b : Bool) → BothOut N RH (elim b as (λ z. Out (Traced M₁) H₁) [ true ↦ with_entries (s.entries ++ (d ∷ [])) (f₁ s.mach) | false ↦ stuck (X₁.held s.mach) 17 ])
          (elim b as (λ z. Out (Traced M) H) [ true ↦ with_entries (t.entries ++ (d ∷ [])) (f t.mach) | false ↦ stuck (X.held t.mach) 17 ])
      go true = said_alike (s.entries ++ (d ∷ [])) (t.entries ++ (d ∷ [])) (ap (λ (k : List Entry). k ++ (d ∷ [])) q.same_entries) h
      go false = both_stuck _ _ (al.a_held s.mach t.mach q.related) 17

  -- the steps within a container
  traced_steps : (cont : ℕ) → AlikeSteps (noting X₁ more shows why cont) (noting X more shows why cont) T.count N RH
  traced_steps cont = record {
    a_eget = λ s t q x l. al.a_eget s.mach t.mach q.related x l;
    a_emark = λ m x s t q l. record { related = al.a_emark m x s.mach t.mach q.related l; same_entries = q.same_entries };
    a_has = λ s t q x l. al.a_has s.mach t.mach q.related x l;
    a_forwarded = λ x s t q l. record { related = al.a_forwarded x s.mach t.mach q.related l; same_entries = q.same_entries };
    a_fwd = λ s t q x l. line_alike (shows x) (entry x 2 cont) (λ m. X₁.fwd_line m x) (λ m. X.fwd_line m x) s t q (al.a_fwd s.mach t.mach q.related x l);
    a_alias = λ s t q x l. line_alike (shows x) (cause_at 3 (why x) x cont) (λ m. X₁.alias_line m x) (λ m. X.alias_line m x) s t q (al.a_alias s.mach t.mach q.related x l);
    a_leaf = λ s t q x l. line_alike true (cause_at 2 (why x) x cont) (λ m. X₁.leaf_line m x) (λ m. X.leaf_line m x) s t q (al.a_leaf s.mach t.mach q.related x l);
    a_body = λ s t q x l. line_alike true (why x) (λ m. X₁.body m x) (λ m. X.body m x) s t q (al.a_body s.mach t.mach q.related x l);
    a_held = λ s t q. al.a_held s.mach t.mach q.related;
  }

  emit_traced_alike : (n : ℕ) (s : Traced M₁) (t : Traced M) (x cont : ℕ) → N s t → x < T.count → BothOut N RH (emit_traced X₁ more shows why T n s x cont) (emit_traced X more shows why T n t x cont)
  unfolding emit_traced
  emit_traced_alike zero s t x cont q l = both_stuck _ _ (al.a_held s.mach t.mach q.related) 12
  emit_traced_alike (suc n) s t x cont q l =
      subst (λ (m : Mark). BothOut N RH (look (noting X₁ more shows why cont) T (λ s' y c. emit_traced X₁ more shows why T n s' y c) s x cont m)
      (look (noting X more shows why cont) T (λ t' y c. emit_traced X more shows why T n t' y c) t x cont (X.eget t.mach x))) (sym (al.a_eget s.mach t.mach q.related x l))
      (look_alike (noting X₁ more shows why cont) (noting X more shows why cont) T below N RH (traced_steps cont) x l (λ s' y c. emit_traced X₁ more shows why T n s' y c) (λ t' y c. emit_traced X more shows why T n t' y c)
      (λ s' t' y c q' l'. emit_traced_alike n s' t' y c q' l') s t cont q (X.eget t.mach x))

  -- the listed ids
  pub listed_alike : (ys : List ℕ) → ((y : ℕ) → Memᴰ y ys → y < T.count) → (s : Traced M₁) (t : Traced M) → N s t → BothOut N RH (each_listed X₁ T more shows why ys s) (each_listed X T more shows why ys t)
  listed_alike ys l s t q =
      eeach_alike (noting X₁ more shows why 0) (noting X more shows why 0) T below N RH (traced_steps 0) (λ m y. emit_traced X₁ more shows why T 512 m y 0) (λ m y. emit_traced X more shows why T 512 m y 0)
      (λ s' t' y q' l'. emit_traced_alike 512 s' t' y 0 q' l') ys l s t q
