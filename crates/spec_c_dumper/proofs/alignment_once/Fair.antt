-- What a body asks comes to the same by the remembering way, refusals included, and its visits stay the types remembered and their members.
-- Assumes nothing.
use Prim.Native.Nat.{ℕ, ◌+◌, ◌-◌, ◌*◌, ◌%◌, ◌<◌, ◌≤◌}
use native.Mathlib.Omega.{arith}
use mathlib.Core.Path.{◌≡◌, refl, ap, ◌∙◌, sym, subst}
use mathlib.Core.Bool.{Bool, true, false}
use mathlib.Core.List.{List, [], ◌∷◌, Memᴰ}
use lib.Dec.{leb, eqb}
use Rattle.spec_c_dumper.specs.rules.Writer.{Ask, got, no, ask_then, align_zero}
use Rattle.spec_c_dumper.specs.rules.Types.{Member, BtfType, Composite, Btf, node_of, member_types, Name}
use Rattle.spec_c_dumper.specs.rules.Layout.{align_members, align_of, get_align_of, off_align, members_packed, is_struct_packed, pads_before, bit_padding}
use Rattle.spec_c_dumper.specs.rules.Placing.{union_align, measured, body_packed}
use Rattle.spec_c_dumper.specs.needs.Needs.{kids}
use Rattle.spec_c_dumper.specs.alignment_once.Once.{Remembered, Keep, Lawful, Once, found, refused, Asking, once_then, align_once, alignment_once, list_once, list_plain, Tells, Right, members_to, paid_to}
use Rattle.spec_c_dumper.specs.alignment_once.Steps.{plainly, off_align_once, members_packed_once, packed_once, gap_align_once, padding_once, union_align_once, judged, measured_once, body_once}
use Rattle.spec_c_dumper.proofs.alignment_once.Right.{within_got, Told, align_of_lem, told}
use Rattle.spec_c_dumper.proofs.alignment_once.Counted.{paid_most, Counts, counts}

-- what holds of the memory after an answer
abbrev pub After : {M A : Type 0} → (M → Type 0) → Once M A → Type 0
After P (found a m k) = P m
After P (refused c m k) = Unit {0}

-- nothing more is asked
abbrev pub Nothing : {M : Type 0} → M → Type 0
Nothing m = Unit {0}

pub no_more : {M A : Type 0} (r : Once M A) → After Nothing r
no_more (found a m k) = tt
no_more (refused c m k) = tt

module _ {M : Type 0} (K : Keep M) (B : Btf) (n : ℕ) (Good : M → Type 0) (Fits : Remembered → Type 0) (law : Lawful K n Good Fits)
    (fits : (id : ℕ) (s : Remembered) → Tells B id s → s.height ≤ 512 → Fits s) (below : (x y : ℕ) → Memᴰ y (kids (node_of (B.type_by_id x))) → y < n)
    (Also : M → Type 0) (keeps : (left id : ℕ) → left ≤ 512 → (m : M) (k : ℕ) → id < n → Right K B m → Good m → Also m → After Also (align_once K left B id m k)) where
  -- a right memory, and the visits that it took
  pub record Honest (m : M) (k : ℕ) : Type 0 where
    pub right : Right K B m
    pub good : Good m
    pub visits : k ≡ paid_to B (K.recall m) n
    pub also : Also m

  -- "at most types plus members"
  pub at_most : (m : M) (k : ℕ) → Honest m k → k ≤ n + members_to B n
  at_most m k h = subst (λ (i : ℕ). i ≤ n + members_to B n) (sym h.visits) (paid_most B (K.recall m) n)

  -- x is what the plain way comes to
  abbrev pub Fair : {A : Type 0} → Ask A → Once M A → Type 0
  Fair x (found a m k) = (x ≡ got a) × Honest m k
  Fair x (refused c m k) = x ≡ no c

  fair_then : {A C : Type 0} (x : Ask A) (r : Once M A) (g : A → Ask C) (f : A → Asking M C) → Fair x r → ((a : A) (m : M) (k : ℕ) → Honest m k → Fair (g a) (f a m k)) → Fair (ask_then x g) (once_then r f)
  unfolding ask_then once_then
  fair_then {A} {C} x (found a m k) g f h on = subst (λ (y : Ask A). Fair (ask_then y g) (f a m k)) (sym h.0) (on a m k h.1)
  fair_then {A} {C} x (refused c m k) g f h on = ap (λ (y : Ask A). ask_then y g) h

  fair_if : {A : Type 0} (b : Bool) (x y : Ask A) (r q : Once M A) → Fair x r → Fair y q → Fair {A = A} (elim b [ true ↦ x | false ↦ y ]) (elim b [ true ↦ r | false ↦ q ])
  fair_if true x y r q h k = h
  fair_if false x y r q h k = k

  fair_plainly : {A : Type 0} (x : Ask A) (m : M) (k : ℕ) → Honest m k → Fair x (plainly x m k)
  unfolding plainly
  fair_plainly (got a) m k h = (refl, h)
  fair_plainly (no c) m k h = refl

  calls : 512 ≤ 512
  calls = omega arith

  module _ (left id : ℕ) (b : left ≤ 512) (l : id < n) (m : M) (k : ℕ) (h : Honest m k) where
    from_told : (r : Once M Remembered) → Told K B (align_of_lem K B id) left m r → Counts K B n Good Fits law fits 0 m k r → After Also r → Fair (get_align_of left B id) (once_then r (λ s. found s.align))
    unfolding once_then
    from_told (found s m' k') t c a = (t.0 left ∙ within_got s left t.1, record { right = t.2; good = c.0; visits = omega (arith, c.1, h.visits); also = a })
    from_told (refused c m' k') t d a = t.0

    pub fair_align : Fair (get_align_of left B id) (alignment_once K left B id m k)
    unfolding alignment_once
    fair_align = from_told (align_once K left B id m k) (told K B n Good Fits law left id m k h.right) (counts K B n Good Fits law fits below left id b m k l h.right h.good) (keeps left id b m k l h.right h.good h.also)

  -- questions in a row
  pub fair_list : (as' : List (ℕ × ℕ)) → ((a : ℕ × ℕ) → Memᴰ a as' → (a.0 ≤ 512) × (a.1 < n)) → (m : M) (k : ℕ) → Honest m k → Fair (list_plain B as') (list_once K B as' m k)
  unfolding list_plain list_once
  fair_list [] b m k h = (refl, h)
  fair_list (a ∷ as') b m k h =
      fair_then (get_align_of a.0 B a.1) (alignment_once K a.0 B a.1 m k) (λ x. ask_then (list_plain B as') (λ l. got (x ∷ l))) (λ x m' k'. once_then (list_once K B as' m' k') (λ l. found (x ∷ l)))
      (fair_align a.0 a.1 (b a (Memᴰ.head refl)).0 (b a (Memᴰ.head refl)).1 m k h)
      (λ x m' k' h'. fair_then (list_plain B as') (list_once K B as' m' k') (λ l. got (x ∷ l)) (λ l. found (x ∷ l)) (fair_list as' (λ c i. b c (Memᴰ.tail i)) m' k' h') (λ l m'' k'' h''. (refl, h'')))

  -- ---- the steps of a body
  fair_off : (a bit_offset : ℕ) (x : Ask Bool) (r : Asking M Bool) (m : M) (k : ℕ) → Honest m k → Fair x (r m k) → Fair (off_align a bit_offset x) (off_align_once a bit_offset r m k)
  unfolding off_align off_align_once
  fair_off a bit_offset x r m k h f =
      fair_if (eqb a 0) (no align_zero) (elim (eqb (bit_offset % (a * 8)) 0) [ true ↦ x | false ↦ got true ]) (refused align_zero m k) (elim (eqb (bit_offset % (a * 8)) 0) [ true ↦ r m k | false ↦ found true m k ])
      refl (fair_if (eqb (bit_offset % (a * 8)) 0) x (got true) (r m k) (found true m k) f (refl, h))

  fair_members : (xs : List Member) → ((y : ℕ) → Memᴰ y (member_types xs) → y < n) → (m : M) (k : ℕ) → Honest m k → Fair (members_packed B xs) (members_packed_once K B xs m k)
  unfolding members_packed members_packed_once
  fair_members [] b m k h = (refl, h)
  fair_members (x ∷ xs) b m k h = go (λ m' k' h'. fair_members xs (λ y i. b y (Memᴰ.tail i)) m' k' h')
    where
      go : ((m' : M) (k' : ℕ) → Honest m' k' → Fair (members_packed B xs) (members_packed_once K B xs m' k')) → Fair (members_packed B (x ∷ xs)) (members_packed_once K B (x ∷ xs) m k)
      go on =
          fair_if (eqb x.bit_size 0) (ask_then (get_align_of 512 B x.type_id) (λ a. off_align a x.bit_offset (members_packed B xs))) (members_packed B xs)
          (once_then (alignment_once K 512 B x.type_id m k) (λ a. off_align_once a x.bit_offset (λ m' k'. members_packed_once K B xs m' k'))) (members_packed_once K B xs m k)
          (fair_then (get_align_of 512 B x.type_id) (alignment_once K 512 B x.type_id m k) (λ a. off_align a x.bit_offset (members_packed B xs)) (λ a. off_align_once a x.bit_offset (λ m' k'. members_packed_once K B xs m' k'))
          (fair_align 512 x.type_id calls (b x.type_id (Memᴰ.head refl)) m k h)
          (λ a m' k' h'. fair_off a x.bit_offset (members_packed B xs) (λ m'' k''. members_packed_once K B xs m'' k'') m' k' h' (on m' k' h')))
          (on m k h)

  module _ (id : ℕ) (l : id < n) (is_struct : Bool) (name : Name) (sz : ℕ) (ms : List Member) (e : B.type_by_id id ≡ Composite is_struct name sz ms) where
    -- get_align_of(id) is that of its members, one call deeper
    own_align : align_members (get_align_of 511 B) 1 ms ≡ get_align_of 512 B id
    unfolding get_align_of align_of
    own_align = sym (ap (align_of B (get_align_of 511 B)) e)

    members_below : (y : ℕ) → Memᴰ y (member_types ms) → y < n
    members_below y i = below id y (subst (λ (t : BtfType). Memᴰ y (kids (node_of t))) (sym e) i)

    fair_own : (m : M) (k : ℕ) → Honest m k → Fair (align_members (get_align_of 511 B) 1 ms) (alignment_once K 512 B id m k)
    fair_own m k h = subst (λ (x : Ask ℕ). Fair x (alignment_once K 512 B id m k)) (sym own_align) (fair_align 512 id calls l m k h)

    pub fair_packed : (m : M) (k : ℕ) → Honest m k → Fair (is_struct_packed B is_struct sz ms) (packed_once K B is_struct id sz ms m k)
    unfolding is_struct_packed packed_once
    fair_packed m k h = go is_struct
      where
        go : (b : Bool) → Fair (is_struct_packed B b sz ms) (packed_once K B b id sz ms m k)
        go false = (refl, h)
        go true =
            fair_then (align_members (get_align_of 511 B) 1 ms) (alignment_once K 512 B id m k) (λ a. elim (eqb (sz % a) 0) [ true ↦ members_packed B ms | false ↦ got true ])
            (λ a m' k'. elim (eqb (sz % a) 0) [ true ↦ members_packed_once K B ms m' k' | false ↦ found true m' k' ]) (fair_own m k h)
            (λ a m' k' h'. fair_if (eqb (sz % a) 0) (members_packed B ms) (got true) (members_packed_once K B ms m' k') (found true m' k') (fair_members ms members_below m' k' h') (refl, h'))

    fair_union : (m : M) (k : ℕ) → Honest m k → Fair (union_align B is_struct ms) (union_align_once K B is_struct id m k)
    unfolding union_align union_align_once
    fair_union m k h = fair_if is_struct (got 1) (align_members (get_align_of 511 B) 1 ms) (found 1 m k) (alignment_once K 512 B id m k) (refl, h) (fair_own m k h)

    fair_measured : (m : M) (k : ℕ) → Honest m k → Fair (measured B is_struct sz ms) (measured_once K B is_struct id sz ms m k)
    unfolding measured measured_once judged
    fair_measured m k h =
        fair_then (union_align B is_struct ms) (union_align_once K B is_struct id m k) (λ a. ask_then (is_struct_packed B is_struct sz ms) (λ packed. judged B is_struct sz ms a packed))
        (λ a m' k'. once_then (packed_once K B is_struct id sz ms m' k') (λ packed. plainly (judged B is_struct sz ms a packed))) (fair_union m k h)
        (λ a m' k' h'. fair_then (is_struct_packed B is_struct sz ms) (packed_once K B is_struct id sz ms m' k') (λ packed. judged B is_struct sz ms a packed) (λ packed. plainly (judged B is_struct sz ms a packed))
        (fair_packed m' k' h') (λ packed m'' k'' h''. fair_plainly (judged B is_struct sz ms a packed) m'' k'' h''))

    -- what is asked before a body's first name or byte
    pub fair_body : (m : M) (k : ℕ) → Honest m k → Fair (body_packed B is_struct sz ms) (body_once K B is_struct id sz ms m k)
    unfolding body_packed body_once
    fair_body m k h =
        fair_if B.placing (measured B is_struct sz ms) (is_struct_packed B is_struct sz ms) (measured_once K B is_struct id sz ms m k) (packed_once K B is_struct id sz ms m k) (fair_measured m k h) (fair_packed m k h)

  -- what is asked before a member
  pub fair_padding : (offset : ℕ) (x : Member) (packed : Bool) → x.type_id < n → (m : M) (k : ℕ) → Honest m k → Fair (bit_padding B offset x packed) (padding_once K B offset x packed m k)
  unfolding bit_padding padding_once gap_align_once
  fair_padding offset x packed l m k h =
      fair_if (leb x.bit_offset offset) (got []) (ask_then (elim packed [ true ↦ got 1 | false ↦ get_align_of 512 B x.type_id ]) (λ a. got (pads_before B.placing B.ptr_sz offset x.bit_size (x.bit_offset - offset) a)))
      (found [] m k) (once_then (gap_align_once K B packed x.type_id m k) (λ a. found (pads_before B.placing B.ptr_sz offset x.bit_size (x.bit_offset - offset) a)))
      (refl, h)
      (fair_then (elim packed [ true ↦ got 1 | false ↦ get_align_of 512 B x.type_id ]) (gap_align_once K B packed x.type_id m k) (λ a. got (pads_before B.placing B.ptr_sz offset x.bit_size (x.bit_offset - offset) a))
      (λ a. found (pads_before B.placing B.ptr_sz offset x.bit_size (x.bit_offset - offset) a))
      (fair_if packed (got 1) (get_align_of 512 B x.type_id) (found 1 m k) (alignment_once K 512 B x.type_id m k) (refl, h) (fair_align 512 x.type_id calls l m k h))
      (λ a m' k' h'. (refl, h')))
