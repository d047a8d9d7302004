-- What the functions of src/words.rt write. Assumes nothing.
use Prim.Native.Nat.{ℕ, zero, suc, ◌+◌, ◌-◌}
use mathlib.Core.Path.{◌≡◌, refl, ap, sym}
use mathlib.Core.Bool.{Bool, true, false, not, ◌&&◌}
use mathlib.Core.List.{List, [], ◌∷◌, ◌++◌}
use mathlib.Core.Logic.{⊎_elim}
use native.Mathlib.Omega.{arith}
use lib.Dec.{eqb, leb}
use borrow.Author.Tests.{ne_eqb, le-leb, lt-leb}
use Rattle.std.proofs.lemmas.Bool.{cases_lt}
use Rattle.spec_bytes.specs.text.Text.{ascii, whole}
use Rattle.spec_bytes.specs.text.Placed.{Placed, put_out, put_text}
use Rattle.spec_bytes.specs.text.Decimal.{decimal}
use Rattle.spec_bytes.proofs.text.TextLaws.{put_seq}
use Rattle.spec_c_dumper.specs.rules.Types.{Name, is_empty, Member, Param}
use Rattle.spec_c_dumper.specs.rules.Decl.{attribute, brackets, bit_size_of, shown_params}
use Rattle.spec_type_table.specs.declared.types.TypeTable.{TypeTable}
use Rattle.spec_type_table.specs.Records.{section_word, param_at}
use Rattle.spec_type_table.specs.Table.{from, param_of}
use Rattle.c_dumper_bodies.specs.bodies.Pieces.{gap, star_text, comma, line_end, packed_text, size_text}

pub star_after : (p : Bool) → p ≡ true → ascii "*" ≡ star_text p
unfolding star_text
star_after p e = rw e

pub star_apart : (p : Bool) → p ≡ false → ascii " *" ≡ star_text p
unfolding star_text
star_apart p e = rw e

pub count_put : (t : List ℕ) (at : Placed) (n : ℕ) (a : Placed) (t₁ : List ℕ) (c : Placed) (t₂ : List ℕ) (r : Placed) (u : List ℕ)
    → put_out a t₁ ≡ put_text t at (whole (ascii "[")) → put_out c t₂ ≡ put_text t₁ a (whole (decimal n)) → put_out r u ≡ put_text t₂ c (whole (ascii "]"))
    → put_out r u ≡ put_text t at (whole (brackets n))
unfolding brackets
count_put t at n a t₁ c t₂ r u e₁ e₂ e₃ = put_seq t at (ascii "[" ++ decimal n) (ascii "]") c t₂ r u (put_seq t at (ascii "[") (decimal n) a t₁ c t₂ e₁ e₂) e₃

pub gap_ptr : (f : Name) (p : Bool) → p ≡ true → [] ≡ gap f p
unfolding gap
gap_ptr f p e = go (is_empty f) p e
  where
    go : (q p : Bool) → p ≡ true → ◌≡◌ {A = List ℕ} [] (elim (not q && not p) as (λ z. List ℕ) [ true ↦ ascii " " | false ↦ [] ])
    go true p e = refl
    go false p e = rw e

pub gap_blank : (f : Name) (p : Bool) → is_empty f ≡ true → [] ≡ gap f p
unfolding gap
gap_blank f p e = rw (e, gap)

pub gap_space : (f : Name) (p : Bool) → p ≡ false → is_empty f ≡ false → ascii " " ≡ gap f p
unfolding gap
gap_space f p e q = rw (q, gap, e)

pub comma_first : (k : ℕ) → k ≡ 0 → [] ≡ comma (eqb k 0)
unfolding comma
comma_first k e = rw e

pub comma_more : (k : ℕ) → (k ≡ 0 → ⊥) → ascii ", " ≡ comma (eqb k 0)
unfolding comma
comma_more k h = rw (ne_eqb k 0 h)

pub line_none : (n : ℕ) → n ≡ 0 → [] ≡ line_end n
unfolding line_end
line_none n e = rw e

pub line_some : (n : ℕ) → (n ≡ 0 → ⊥) → ascii "\n" ≡ line_end n
unfolding line_end
line_some n h = rw (ne_eqb n 0 h, line_end)

pub packed_is : (p : Bool) → p ≡ true → ascii " __attribute__((packed))" ≡ packed_text p
unfolding packed_text
packed_is p e = rw e

pub packed_not : (p : Bool) → p ≡ false → [] ≡ packed_text p
unfolding packed_text
packed_not p e = rw e

pub size_none : (n : ℕ) → n ≡ 0 → [] ≡ size_text n
unfolding size_text
size_none n e = rw e

pub size_put : (t : List ℕ) (at : Placed) (n : ℕ) (a : Placed) (t₁ : List ℕ) (r : Placed) (u : List ℕ) → (n ≡ 0 → ⊥)
    → put_out a t₁ ≡ put_text t at (whole (ascii ": ")) → put_out r u ≡ put_text t₁ a (whole (decimal n))
    → put_out r u ≡ put_text t at (whole (size_text n))
unfolding size_text
size_put t at n a t₁ r u h e₁ e₂ = rw (ne_eqb n 0 h, size_text) (put_seq t at (ascii ": ") (decimal n) a t₁ r u e₁ e₂)

-- the rules' names for these
pub size_is : (m : Member) → size_text m.bit_size ≡ bit_size_of m
unfolding size_text bit_size_of
size_is m = refl

-- ---- the parameters that are shown
pub shown_many : (f : ℕ → Param) (n : ℕ) → (n ≡ 1 → ⊥) → from f 0 n ≡ shown_params (from f 0 n)
unfolding from shown_params
shown_many f zero h = refl
shown_many f (suc zero) h = absurd (h refl)
shown_many f (suc (suc n)) h = refl

pub shown_one : (f : ℕ → Param) (n : ℕ) → n ≡ 1 → ((f 0).type_id ≡ 0 → ⊥) → from f 0 n ≡ shown_params (from f 0 n)
unfolding from shown_params
shown_one f n e h = rw e (sym (ap (λ (q : Bool). elim q as (λ z. List Param) [ true ↦ [] | false ↦ f 0 ∷ [] ]) (ne_eqb (f 0).type_id 0 h)))

pub shown_void : (f : ℕ → Param) (n : ℕ) → n ≡ 1 → (f 0).type_id ≡ 0 → from f 0 0 ≡ shown_params (from f 0 n)
unfolding from shown_params
shown_void f n e h = rw (e, h)

-- ---- the last, if void
pub any_typed : (n k x : ℕ) → (x ≡ 0 → ⊥) → false ≡ (leb n (k + 1) && eqb x 0)
any_typed n k x h = rw (ne_eqb x 0 h) (go (leb n (k + 1)))
  where
    go : (q : Bool) → false ≡ (q && false)
    go true = refl
    go false = refl

pub any_last : (n k x : ℕ) → x ≡ 0 → leb (n - 1) k ≡ (leb n (k + 1) && eqb x 0)
any_last n k x e =
    rw e
    (⊎_elim
    (λ l. rw (lt-leb n (k + 1) l, lt-leb (n - 1) k (omega arith)))
    (λ l. rw (le-leb n (k + 1) l, le-leb (n - 1) k (omega arith)))
    (cases_lt (k + 1) n))

-- the words of a parameter, at its place
pub type_at : (b : TypeTable) (s : List ℕ) (p at : ℕ) → p ≡ param_at at 0 → section_word b s (p + 4) ≡ (param_of b s at 0).type_id
unfolding param_of
type_at b s p at e = ap (λ (x : ℕ). section_word b s (x + 4)) e

pub tag_put_lem : (t : List ℕ) (at : Placed) (f g : Bool) (word : List ℕ) (name : Name) (r : Placed) (u : List ℕ) → f ≡ g
    → put_out r u ≡ put_text t at (whole (attribute f word name)) → put_out r u ≡ put_text t at (whole (attribute g word name))
tag_put_lem t at f g word name r u e p = rw e at p
