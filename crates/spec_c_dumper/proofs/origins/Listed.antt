-- Entries in a lent list: how long they are, and some after others. Assumes nothing.
use Prim.Native.Nat.{ℕ, ◌+◌, ◌-◌, ◌*◌, ◌≤◌}
use mathlib.Core.Path.{◌≡◌, refl, ap, ◌∙◌, sym}
use mathlib.Core.List.{List, [], ◌∷◌, ◌++◌, append_assoc}
use native.Mathlib.Omega.{arith}
use lib.ListN.{length, take, replicate, length-append, length-replicate}
use lib.Seq.{take_at}
use Rattle.spec_c_dumper.specs.origins.Causes.{Entry, word_bytes, bytes_of}
use Rattle.spec_c_dumper.specs.origins.Claims.{Listed}

pub bytes_length : (es : List Entry) → length (bytes_of es) ≡ 12 * length es
unfolding bytes_of
bytes_length [] = refl
bytes_length (e ∷ es) = let h : length (bytes_of es) ≡ 12 * length es = bytes_length es in omega arith

pub bytes_append : (es fs : List Entry) → bytes_of (es ++ fs) ≡ bytes_of es ++ bytes_of fs
unfolding bytes_of
bytes_append [] fs = refl
bytes_append (e ∷ es) fs = ap (λ (x : List ℕ). word_bytes e.id ++ (word_bytes e.cause ++ (word_bytes e.leader ++ x))) (bytes_append es fs)

-- ---- a list with entries es: they fit, and they are its first bytes
module _ (n : ℕ) (es : List Entry) (a : List ℕ) (h : Listed n es a) where
  pub listed_fits : 12 * length es ≤ n
  listed_fits =
      let zs : List ℕ = replicate (n - 12 * length es) 0 in
      let e : length a ≡ length (bytes_of es) + length zs = ap length h.is ∙ length-append (bytes_of es) zs in
      let f : length zs ≡ n - 12 * length es = length-replicate {A = ℕ} (n - 12 * length es) 0 in
      let g : length (bytes_of es) ≡ 12 * length es = bytes_length es in
      let i : length a ≡ n = h.size in
      omega arith

  first_bytes : take (length es * 12) a ≡ bytes_of es
  first_bytes = ap (take (length es * 12)) h.is ∙ take_at (bytes_of es) (replicate (n - 12 * length es) 0) (length es * 12) (let g : length (bytes_of es) ≡ 12 * length es = bytes_length es in omega arith)

  -- and the entries fs in what follows them
  pub listed_both : (m : ℕ) → m ≡ n - length es * 12 → (fs : List Entry) (b : List ℕ) → Listed m fs b → Listed n (es ++ fs) (take (length es * 12) a ++ b)
  listed_both m em fs b k = record {
    is = (λ i. first_bytes i ++ k.is i) ∙ sym (append_assoc (bytes_of es) (bytes_of fs) (replicate (m - 12 * length fs) 0))
        ∙ (λ i. together i ++ replicate (left i) 0);
    size = length-append (take (length es * 12) a) b ∙ (let e : length (take (length es * 12) a) ≡ length (bytes_of es) = ap length first_bytes in let g : length (bytes_of es) ≡ 12 * length es = bytes_length es in let s : length b ≡ m = k.size in let f : 12 * length es ≤ n = listed_fits in omega arith);
  }
    where
      together : bytes_of es ++ bytes_of fs ≡ bytes_of (es ++ fs)
      together = sym (bytes_append es fs)

      left : m - 12 * length fs ≡ n - 12 * length (es ++ fs)
      left = let e : length (es ++ fs) ≡ length es + length fs = length-append es fs in omega arith
