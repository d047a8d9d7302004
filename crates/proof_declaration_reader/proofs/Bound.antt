-- "19 when the bytes are no such declaration or its chain … would pass 512 entries": the bound on open calls refuses no other text. Assumes nothing.
use Prim.Native.Nat.{ℕ, ◌+◌, ◌*◌, ◌≤◌, ◌<◌}
use mathlib.Core.Path.{◌≡◌, refl, ap, sym, ◌∙◌}
use mathlib.Core.Bool.{Bool, true, false}
use mathlib.Core.List.{List, [], ◌∷◌}
use mathlib.Core.Logic.{⊎_elim}
use native.Mathlib.Omega.{arith}
use borrow.Author.Tests.{le-leb, leb-true}
use lib.Dec.{leb}
use Rattle.std.proofs.lemmas.Bool.{cases_lt}
use Rattle.session_declaration_reader.specs.grammar.Chain.{Chain, entries}
use Rattle.session_declaration_reader.specs.tokens.Tokens.{Token, tokens}
use Rattle.session_declaration_reader.specs.grammar.Grammar.{Reads, reads, fails}
use Rattle.session_declaration_reader.specs.reader.Reading.{as_bytes, most, Read, chain, refused, read_tokens, within_most, whole, read_with, read}
use Rattle.session_declaration_reader.proofs.tokens.Cases.{passed}
use Rattle.proof_declaration_reader.specs.Enough.{read_under, Declares, Exactly}
use Rattle.proof_declaration_reader.proofs.Parses as parses

abbrev Ts : Type 0
Ts = List (Token (List ℕ))

-- a text that is read under some bound is read under every one past four calls an entry
larger : (f g : ℕ) (ts : Ts) (c : Chain (List ℕ)) (us : Ts) → read_under f ts ≡ reads c us → 4 * entries c ≤ g + 2 → read_under g ts ≡ reads c us
unfolding entries
larger f g ts c us e b = (rw e at (parses.under_good (λ ts. Unit {0}) (λ ws. Unit {0}) (λ ts t. tt) (λ ts t. tt) (λ n ts b t. (tt, tt)) f ts)).more g (omega arith)

-- `most` is the reader's bound
same_bound : (ts : Ts) → read_tokens ts ≡ read_under most ts
unfolding read_tokens read_under
same_bound ts = refl

chain_refused : (c : Chain (List ℕ)) → ◌≡◌ {A = Read (List ℕ)} refused (chain c) → ⊥
chain_refused c e = let k : ◌≡◌ {A = ℕ} 0 1 = cc in omega arith

few : (c : Chain (List ℕ)) → entries c ≤ 512 → within_most c ≡ chain c
unfolding within_most
few c h = passed (leb (entries c) 512) (chain c) refused (le-leb (entries c) 512 h)

module _ (s : List ℕ) where
  abbrev ts : Ts
  ts = tokens as_bytes [] s

  read_is : read s ≡ whole (read_under most ts)
  unfolding read read_with
  read_is = ap whole (same_bound ts)

  one : (c d : Chain (List ℕ)) → Declares s c → Declares s d → c ≡ d
  one c d p q =
      let g : ℕ = 4 * entries c + 4 * entries d in
      let a : read_under g ts ≡ reads c [] = larger p.bound g ts c [] p.reads_it (omega arith) in
      let b : read_under g ts ≡ reads d [] = larger q.bound g ts d [] q.reads_it (omega arith) in
      let e : reads c [] ≡ reads d [] = sym a ∙ b in
      cc

  reads_all : (c : Chain (List ℕ)) → Declares s c → entries c ≤ 512 → read s ≡ chain c
  unfolding whole
  reads_all c d h = read_is ∙ ap whole (larger d.bound most ts c [] d.reads_it (omega arith)) ∙ few c h

  reads_only : (c : Chain (List ℕ)) → read s ≡ chain c → Declares s c × (entries c ≤ 512)
  unfolding whole within_most
  reads_only c e = go (read_under most ts) refl (sym read_is ∙ e)
    where
      counts : (d : Chain (List ℕ)) (b : Bool) → leb (entries d) 512 ≡ b → read_under most ts ≡ reads d [] → elim b [ true ↦ chain d | false ↦ refused ] ≡ chain c → Declares s c × (entries c ≤ 512)
      counts d true l p q =
          let same : d ≡ c = cc in
          (record { bound = most; reads_it = p ∙ ap (λ x. reads x []) same }, rw same at (leb-true (entries d) 512 l))
      counts d false l p q = absurd (chain_refused c q)

      go : (x : Reads (List ℕ) (Chain (List ℕ))) → read_under most ts ≡ x → whole x ≡ chain c → Declares s c × (entries c ≤ 512)
      go (reads d []) p q = counts d (leb (entries d) 512) refl p q
      go (reads d (t ∷ us)) p q = absurd (chain_refused c q)
      go fails p q = absurd (chain_refused c q)

  refuses_only : read s ≡ refused → (c : Chain (List ℕ)) → Declares s c → 512 < entries c
  refuses_only e c d = ⊎_elim (λ h. h) (λ h. absurd (chain_refused c (sym e ∙ reads_all c d h))) (cases_lt 512 (entries c))

  refuses_all : ((c : Chain (List ℕ)) → Declares s c → 512 < entries c) → read s ≡ refused
  refuses_all h = go (read s) refl
    where
      go : (r : Read (List ℕ)) → read s ≡ r → read s ≡ refused
      go (chain c) e = let d = reads_only c e in absurd (omega (arith, h c d.0, d.1))
      go refused e = e

  pub exactly : Exactly s
  exactly = record { one = one; reads_all = reads_all; reads_only = reads_only; refuses_all = refuses_all; refuses_only = refuses_only }
