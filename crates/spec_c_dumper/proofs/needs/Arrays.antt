-- The setting for arrays behind pointers, in the idea of need.
use Prim.Native.Nat.{ℕ, ◌<◌}
use mathlib.Core.Path.{◌≡◌, refl, sym, ◌∙◌, ap, subst}
use mathlib.Core.Bool.{Bool, true, false, not, ◌&&◌, ◌||◌}
use mathlib.Core.List.{[], ◌∷◌, Memᴰ}
use mathlib.Core.Logic.{inr}
use Rattle.spec_c_dumper.specs.rules.Order.{Node, ignored, plain, listed, through, ptr, tdef, proto, comp, Table, is_comp, refused}
use Rattle.spec_c_dumper.specs.rules.Machine.{Machine, Sess, ordering, single}
use Rattle.spec_c_dumper.specs.needs.Needs.{kids, weaken, is_array, here, past, Needs, end, next, now, MeetsTwice}
use Rattle.spec_c_dumper.specs.needs.Demand.{Demand3}

abbrev pub is_ptr : Node → Bool
is_ptr ignored = false
is_ptr plain = false
is_ptr (listed f) = false
is_ptr (through a t) = false
is_ptr (ptr t) = true
is_ptr (tdef t) = false
is_ptr (proto ts) = false
is_ptr (comp ts) = false

module _ (T : Table) where
  -- the setting off: "a pointer lies on it if a type passed is a PTR"
  pub pointers_stay : T.strong_arrays ≡ false → (nd : Node) (w : Bool) → weaken T nd w ≡ (is_ptr nd || w)
  pointers_stay e ignored w = refl
  pointers_stay e plain w = refl
  pointers_stay e (listed f) w = refl
  pointers_stay e (through true t) w = ap (λ (k : Bool). not k && w) e
  pointers_stay e (through false t) w = refl
  pointers_stay e (ptr t) w = refl
  pointers_stay e (tdef t) w = refl
  pointers_stay e (proto ts) w = refl
  pointers_stay e (comp ts) w = refl

  -- the setting on: "passing an array forgets pointers passed before it"
  pub arrays_forget : T.strong_arrays ≡ true → (nd : Node) (w : Bool) → weaken T nd w ≡ (is_ptr nd || (not (is_array nd) && w))
  arrays_forget e ignored w = refl
  arrays_forget e plain w = refl
  arrays_forget e (listed f) w = refl
  arrays_forget e (through true t) w = ap (λ (k : Bool). not k && w) e
  arrays_forget e (through false t) w = refl
  arrays_forget e (ptr t) w = refl
  arrays_forget e (tdef t) w = refl
  arrays_forget e (proto ts) w = refl
  arrays_forget e (comp ts) w = refl

  -- "a struct with a pointer to an array of itself is now a cycle": c, its member's type m, the array
  module _ (c m array : ℕ) (on : T.strong_arrays ≡ true) (composite : is_comp (T.node c) ≡ true) (member : Memᴰ m (kids (T.node c)))
      (to_array : T.node m ≡ ptr array) (to_itself : T.node array ≡ through true c) where
    pub needs_itself : Needs T c c
    needs_itself = record {
      composite = composite;
      member = m;
      is_member = member;
      pointer = false;
      way = past (ap is_comp to_array) (subst (λ (k : Node). Memᴰ array (kids k)) (sym to_array) (Memᴰ.head refl))
          (past (ap is_comp to_itself) (subst (λ (k : Node). Memᴰ c (kids k)) (sym to_itself) (Memᴰ.head refl)) (here composite refl arrives));
      owed = inr refl;
    }
      where
        arrives : weaken T (T.node array) (weaken T (T.node m) false) ≡ false
        arrives = (λ i. weaken T (to_itself i) (weaken T (to_array i) false)) ∙ ap (λ (k : Bool). not k && true) on

    pub array_of_itself : MeetsTwice T c
    array_of_itself = record { rest = c ∷ []; chain = next needs_itself end; twice = now (Memᴰ.head refl) }

    -- so a request for it, unless too deep, is refused by 13
    pub array_of_itself_refused : {M H : Type 0} (X : Machine M H) (S : Sess M) → Demand3 X T S → S.is_open ≡ true → (room : ℕ) → c < T.count → T.named c ≡ true
        → (ordering X T room S c ≡ refused 12 → ⊥) → (single X T room S c).number ≡ 13
    array_of_itself_refused X S d o room l n deep = (d.cycles o room c l (composite, n) deep).1 array_of_itself
