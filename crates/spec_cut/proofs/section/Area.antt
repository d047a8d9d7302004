-- The new strings are a sound string area (no cause 4), where the old ones are. Assumes nothing.
use Prim.Native.Nat.{ℕ, zero, suc}
use native.Mathlib.Omega.{arith}
use mathlib.Core.Path.{◌≡◌, refl, ◌∙◌, ap}
use mathlib.Core.Bool.{Bool, true, false, ◌&&◌}
use mathlib.Core.List.{List, [], ◌∷◌, ◌++◌}
use lib.ListN.{length, get_or, drop}
use lib.Dec.{leb, eqb}
use borrow.Author.Tests.{leb-true}
use Rattle.std.proofs.lemmas.Bool.{and_parts}
use Rattle.spec_linux_btf.specs.Documentation.{Every, NonzeroAscii, encode_strings}
use Rattle.spec_linux_btf.specs.Section.{all_ascii, last_of, strings_sound, string_area}
use Rattle.spec_linux_btf.proofs.Strings.{strings_pass}
use Rattle.spec_c_dumper.specs.rules.Types.{Name}
use Rattle.spec_type_table.specs.Names.{up_to_zero, name_at}
use Rattle.spec_cut.specs.section.Strings.{has, add_name, add_all, all_mentions, first_names}
use Rattle.spec_cut.specs.section.Section.{old_types, new_strings}

-- the elements up to the first 0 of bytes up to 127
name_ascii : (l : List ℕ) → all_ascii l ≡ true → Every NonzeroAscii (up_to_zero l)
unfolding up_to_zero
name_ascii [] h = tt
name_ascii (zero ∷ l) h = tt
name_ascii (suc x ∷ l) h = let q = and_parts (leb (suc x) 127) (all_ascii l) h in ((omega arith, leb-true (suc x) 127 q.0), name_ascii l q.1)

drop_ascii : (n : ℕ) (l : List ℕ) → all_ascii l ≡ true → all_ascii (drop n l) ≡ true
drop_ascii zero l h = h
drop_ascii (suc n) [] h = refl
drop_ascii (suc n) (x ∷ l) h = drop_ascii n l (and_parts (leb x 127) (all_ascii l) h).1

every_more : (ss : List Name) (x : Name) → Every (Every NonzeroAscii) ss → Every NonzeroAscii x → Every (Every NonzeroAscii) (ss ++ (x ∷ []))
every_more [] x h e = (e, tt)
every_more (s ∷ ss) x h e = (h.0, every_more ss x h.1 e)

-- the empty name stays first, and all the others are strings
pub record Sound (ss : List Name) : Type 0 where
  pub rest : List Name
  pub shape : ss ≡ [] ∷ rest
  pub strings : Every (Every NonzeroAscii) rest

add_sound : (ss : List Name) (x : Name) → Sound ss → Every NonzeroAscii x → Sound (add_name ss x)
unfolding add_name
add_sound ss x h e = go (has ss x)
  where
    go : (c : Bool) → Sound (elim c [ true ↦ ss | false ↦ ss ++ (x ∷ []) ])
    go true = h
    go false = record { rest = h.rest ++ (x ∷ []); shape = ap (λ (l : List Name). l ++ (x ∷ [])) h.shape; strings = every_more h.rest x h.strings e }

add_all_sound : (old : List ℕ) → all_ascii old ≡ true → (ns : List ℕ) (ss : List Name) → Sound ss → Sound (add_all old ss ns)
unfolding add_all name_at
add_all_sound old a [] ss h = h
add_all_sound old a (n ∷ ns) ss h = add_all_sound old a ns (add_name ss (name_at old n)) (add_sound ss (name_at old n) h (name_ascii (drop n old) (drop_ascii n old a)))

pub sound_ascii : (a : List ℕ) → strings_sound a ≡ true → all_ascii a ≡ true
unfolding strings_sound
sound_ascii a h =
    let p = and_parts (leb 1 (length a)) (eqb (get_or a 0 1) 0 && (eqb (last_of 1 a) 0 && all_ascii a)) h in
    let q = and_parts (eqb (get_or a 0 1) 0) (eqb (last_of 1 a) 0 && all_ascii a) p.1 in
    (and_parts (eqb (last_of 1 a) 0) (all_ascii a) q.1).1

-- no cause 4
pub no_cause_4 : (m : ℕ → Bool) (s : List ℕ) → strings_sound (string_area s) ≡ true → strings_sound (new_strings m s) ≡ true
no_cause_4 m s h =
    let k = add_all_sound (string_area s) (sound_ascii (string_area s) h) (all_mentions (old_types m s)) first_names (record { rest = []; shape = refl; strings = tt }) in
    ap (λ (l : List Name). strings_sound (encode_strings l)) k.shape ∙ strings_pass k.rest k.strings
