-- A spelling with a number splits in one way only into base, three underscores and digits. Assumes nothing.
use Prim.Native.Nat.{ℕ, ◌≤◌}
use mathlib.Core.Path.{◌≡◌, refl, sym, ◌∙◌, ap, ap₂, subst}
use mathlib.Core.List.{List, [], ◌∷◌, ◌++◌, append_cancel_right, head-eq_of_cons-eq, tail-eq_of_cons-eq}
use native.Mathlib.Omega.{arith}
use Rattle.spec_bytes.specs.text.Text.{ascii}
use Rattle.spec_bytes.specs.text.Decimal.{decimal}
use Rattle.spec_bytes.proofs.text.Digits.{horner, AllDigits, decimal_is}
use Rattle.spec_c_dumper.specs.rules.Types.{Name}
use Rattle.spec_c_dumper.specs.rules.Names.{spelled}
use Rattle.spec_c_dumper.proofs.rules.Names.{spelled_later}

-- an underscore is no digit
no_underscore : (b e : List ℕ) → AllDigits (b ++ (95 ∷ e)) → ⊥
no_underscore [] e h = omega (arith, h.1)
no_underscore (y ∷ b) e h = no_underscore b e h.2

-- the digits after the last underscore
last_underscore : (a b d e : List ℕ) → AllDigits d → AllDigits e → a ++ (95 ∷ d) ≡ b ++ (95 ∷ e) → (a ≡ b) × (d ≡ e)
last_underscore [] [] d e p q r = (refl, tail-eq_of_cons-eq r)
last_underscore [] (y ∷ b) d e p q r = absurd (no_underscore b e (subst AllDigits (tail-eq_of_cons-eq r) p))
last_underscore (x ∷ a) [] d e p q r = absurd (no_underscore a d (subst AllDigits (sym (tail-eq_of_cons-eq r)) q))
last_underscore (x ∷ a) (y ∷ b) d e p q r =
    let t = last_underscore a b d e p q (tail-eq_of_cons-eq r) in
    (ap₂ ◌∷◌ (head-eq_of_cons-eq r) t.0, t.1)

three : (x d : List ℕ) → x ++ ascii "___" ++ d ≡ (x ++ ascii "__") ++ (95 ∷ d)
three [] d = refl
three (a ∷ x) d = ap {B = List ℕ} (λ l. a ∷ l) (three x d)

pub splits_once : (x y : Name) (n m : ℕ) → 2 ≤ n → 2 ≤ m → n ≤ 4294967295 → m ≤ 4294967295 → spelled x n ≡ spelled y m → (x ≡ y) × (n ≡ m)
splits_once x y n m h k p q e =
    let u = decimal_is n (omega arith) in
    let v = decimal_is m (omega arith) in
    let s = last_underscore (x ++ ascii "__") (y ++ ascii "__") (decimal n) (decimal m) u.plain v.plain
    (sym (three x (decimal n)) ∙ sym (spelled_later x n h) ∙ e ∙ spelled_later y m k ∙ three y (decimal m)) in
    (append_cancel_right x y (ascii "__") s.0, sym u.means ∙ ap (horner 0) s.1 ∙ v.means)
