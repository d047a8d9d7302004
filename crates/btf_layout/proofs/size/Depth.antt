-- How many calls an answer takes: a chain of m typedefs takes m more than the type that it ends in. So of 512 calls a chain of
-- 511 over a number leaves enough, and one of 512 is refused by 12. Assumes nothing.
use Prim.Native.Nat.{ℕ, zero, suc, ◌<◌, ◌≤◌}
use mathlib.Core.Path.{◌≡◌, refl, ap, ◌∙◌}
use native.Mathlib.Omega.{arith}
use Rattle.spec_c_dumper.specs.rules.Writer.{got, no, too_deep}
use Rattle.spec_c_dumper.specs.rules.Types.{Name, Int, Typedef, Btf}
use Rattle.spec_c_dumper.specs.rules.Layout.{octets, smaller, size_of, get_size_of, align_of, get_align_of}

module _ (B : Btf) (at : ℕ → ℕ) (name : ℕ → Name) where
  -- at m is a chain of m typedefs, down to at 0
  abbrev pub Chain : ℕ → Type 0
  Chain m = (k : ℕ) → k < m → B.type_by_id (at (suc k)) ≡ Typedef (name k) (at k)

  abbrev pub Number : Name → ℕ → Type 0
  Number n bits = B.type_by_id (at 0) ≡ Int n bits

  shorter : (m : ℕ) → Chain (suc m) → Chain m
  shorter m c k l = c k (omega arith)

  size_next : (n m : ℕ) → Chain (suc m) → get_size_of (suc n) B (at (suc m)) ≡ get_size_of n B (at m)
  unfolding get_size_of size_of
  size_next n m c = ap (size_of B (get_size_of n B)) (c m (omega arith))

  align_next : (n m : ℕ) → Chain (suc m) → get_align_of (suc n) B (at (suc m)) ≡ get_align_of n B (at m)
  unfolding get_align_of align_of
  align_next n m c = ap (align_of B (get_align_of n B)) (c m (omega arith))

  pub size_passes : (m n bits : ℕ) (x : Name) → m < n → Chain m → Number x bits → get_size_of n B (at m) ≡ got (octets bits)
  unfolding get_size_of size_of
  size_passes m zero bits x l c e = absurd (omega arith)
  size_passes zero (suc n) bits x l c e = ap (size_of B (get_size_of n B)) e
  size_passes (suc m) (suc n) bits x l c e = size_next n m c ∙ size_passes m n bits x (omega arith) (shorter m c) e

  pub size_refused : (m n : ℕ) → n ≤ m → Chain m → get_size_of n B (at m) ≡ no too_deep
  unfolding get_size_of
  size_refused m zero l c = refl
  size_refused zero (suc n) l c = absurd (omega arith)
  size_refused (suc m) (suc n) l c = size_next n m c ∙ size_refused m n (omega arith) (shorter m c)

  pub align_passes : (m n bits : ℕ) (x : Name) → m < n → Chain m → Number x bits → get_align_of n B (at m) ≡ got (smaller B.ptr_sz (octets bits))
  unfolding get_align_of align_of
  align_passes m zero bits x l c e = absurd (omega arith)
  align_passes zero (suc n) bits x l c e = ap (align_of B (get_align_of n B)) e
  align_passes (suc m) (suc n) bits x l c e = align_next n m c ∙ align_passes m n bits x (omega arith) (shorter m c) e

  pub align_refused : (m n : ℕ) → n ≤ m → Chain m → get_align_of n B (at m) ≡ no too_deep
  unfolding get_align_of
  align_refused m zero l c = refl
  align_refused zero (suc n) l c = absurd (omega arith)
  align_refused (suc m) (suc n) l c = align_next n m c ∙ align_refused m n (omega arith) (shorter m c)

  -- 512 calls pass
  pub size_512 : (bits : ℕ) (x : Name) → Chain 511 → Number x bits → get_size_of 512 B (at 511) ≡ got (octets bits)
  size_512 bits x = size_passes 511 512 bits x (omega arith)

  pub align_512 : (bits : ℕ) (x : Name) → Chain 511 → Number x bits → get_align_of 512 B (at 511) ≡ got (smaller B.ptr_sz (octets bits))
  align_512 bits x = align_passes 511 512 bits x (omega arith)

  -- the call 513 is refused
  pub size_513 : Chain 512 → get_size_of 512 B (at 512) ≡ no 12
  size_513 = size_refused 512 512 (omega arith)

  pub align_513 : Chain 512 → get_align_of 512 B (at 512) ≡ no 12
  align_513 = align_refused 512 512 (omega arith)
