-- Below its base a chain has only entries that lead on, and so has what is popped from it. Assumes nothing.
use Prim.Native.Nat.{ℕ, zero, suc}
use mathlib.Core.Path.{◌≡◌, refl, ap, ◌∙◌, sym}
use mathlib.Core.Bool.{Bool, true, false, false≢true}
use Rattle.std.specs.Prelude.{Option, Some}
use mathlib.Core.List.{List, [], ◌∷◌}
use Rattle.spec_c_dumper.specs.rules.Writer.{Ask, got, no}
use Rattle.spec_c_dumper.specs.rules.Types.{BtfType, Void, Int, Ptr, Array, Composite, Enum, Enum64, Fwd, Typedef, Mod, Func, Var, Datasec, FuncProto, Float, DeclTag, TypeTag, Btf}
use Rattle.spec_c_dumper.specs.rules.Decl.{Entry, base, star, qual, array, proto, tag, link_of, chain_on, chain_of, no_mods}
use Rattle.spec_type_table.specs.declared.types.TypeTable.{TypeTable}
use Rattle.spec_type_table.specs.declared.types.BtfType.{BtfType as Record}
use Rattle.spec_type_table.specs.declared.kind.Kind.{Kind}
use Rattle.spec_type_table.specs.declared.kind.Kind.TheVariants as kinds
use Rattle.spec_type_table.specs.Kinds.{kind_named}
use Rattle.spec_type_table.specs.Records.{kind_of, record_by_id}
use Rattle.spec_type_table.specs.Table.{btf_of}
use Rattle.c_dumper_bodies.specs.declared.chain.links.Base.{Base}
use Rattle.c_dumper_bodies.specs.chain.Chains.{is_link, entry_of, chain_at, chain_is, only_links}
use Rattle.c_dumper_bodies.specs.bodies.Pieces.{entry_left}
use Rattle.c_dumper_bodies.proofs.chain.Linked.{entry_base}

pub links_below : (e : Entry) (c : List Entry) → only_links (e ∷ c) ≡ true → only_links c ≡ true
unfolding only_links
links_below (base id) c h = absurd (false≢true h)
links_below star c h = h
links_below (qual q) c h = h
links_below (array k) c h = h
links_below (proto ps) c h = h
links_below (tag a name) c h = h

pub links_mods : (c : List Entry) → only_links c ≡ true → only_links (no_mods c) ≡ true
unfolding only_links no_mods
links_mods [] h = refl
links_mods (base id ∷ c) h = absurd (false≢true h)
links_mods (star ∷ c) h = h
links_mods (qual q ∷ c) h = links_mods c h
links_mods (array k ∷ c) h = h
links_mods (proto ps ∷ c) h = h
links_mods (tag a name ∷ c) h = h

pub links_left : (c : List Entry) → only_links c ≡ true → only_links (entry_left c) ≡ true
unfolding only_links entry_left
links_left [] h = refl
links_left (base id ∷ c) h = absurd (false≢true h)
links_left (star ∷ c) h = h
links_left (qual q ∷ c) h = h
links_left (array k ∷ c) h = refl
links_left (proto ps ∷ c) h = refl
links_left (tag a name ∷ c) h = links_mods c h

-- ---- a chain, below its base
below : Ask (List Entry) → Bool
below (got []) = true
below (got (e ∷ c)) = only_links c
below (no n) = true

links_on : (walk : ℕ → List Entry → Ask (List Entry)) → ((t : ℕ) (c : List Entry) → only_links c ≡ true → below (walk t c) ≡ true)
    → (id : ℕ) (c : List Entry) → only_links c ≡ true → (t : BtfType) → below (chain_on walk id c (link_of t)) ≡ true
unfolding below chain_on only_links
links_on walk k id c h Void = h
links_on walk k id c h (Int n x) = h
links_on walk k id c h (Ptr t) = k t (star ∷ c) h
links_on walk k id c h (Array t n) = k t (array n ∷ c) h
links_on walk k id c h (Composite x n z ms) = h
links_on walk k id c h (Enum x n z vs) = h
links_on walk k id c h (Enum64 x n z vs) = h
links_on walk k id c h (Fwd u n) = h
links_on walk k id c h (Typedef n t) = h
links_on walk k id c h (Mod q t) = k t (qual q ∷ c) h
links_on walk k id c h (Func n) = h
links_on walk k id c h (Var n) = h
links_on walk k id c h (Datasec n) = h
links_on walk k id c h (FuncProto r ps) = k r (proto ps ∷ c) h
links_on walk k id c h (Float n z) = h
links_on walk k id c h (DeclTag a n t x) = h
links_on walk k id c h (TypeTag a n t) = k t (tag a n ∷ c) h

links_walked : (B : Btf) (f id : ℕ) (c : List Entry) → only_links c ≡ true → below (chain_of f B id c) ≡ true
unfolding below chain_of
links_walked B zero id c h = refl
links_walked B (suc f) id c h = links_on (chain_of f B) (links_walked B f) id c h (B.type_by_id id)

module _ (b : TypeTable) (s w : List ℕ) where
  pub links_chain : (start : ℕ) (r : Option Base) (x : Base) → chain_is b s w start r ≡ chain_of 512 (btf_of b s w) start [] → r ≡ Some x → only_links (chain_at b s w start x.n) ≡ true
  unfolding below chain_is only_links
  links_chain start r x e q = ap (λ (y : Option Base). below (chain_is b s w start y)) (sym q) ∙ ap below e ∙ links_walked (btf_of b s w) 512 start [] refl

  -- ---- the entry on top, by the kind of its record
  module _ (id : ℕ) (t : Record) (et : t ≡ record_by_id b s w id) (c : List Entry) (h : only_links (entry_of b s w id ∷ c) ≡ true) where
    leads_on : is_link (kind_named (kind_of t.info)) ≡ true
    unfolding only_links
    leads_on = go (is_link (kind_named (kind_of t.info))) refl
      where
        go : (l : Bool) → is_link (kind_named (kind_of t.info)) ≡ l → is_link (kind_named (kind_of t.info)) ≡ true
        go true e = e
        go false e = absurd (false≢true (sym (ap (λ (y : Entry). only_links (y ∷ c)) (entry_base b s w id t et e)) ∙ h))

    tag_only : (k : Kind) → is_link k ≡ true → (k ≡ kinds.Ptr → ⊥) → (k ≡ kinds.Array → ⊥) → (k ≡ kinds.Volatile → ⊥) → (k ≡ kinds.Const → ⊥) → (k ≡ kinds.Restrict → ⊥) → (k ≡ kinds.FuncProto → ⊥) → k ≡ kinds.TypeTag
    tag_only kinds.Void l n a v c r p = absurd (false≢true l)
    tag_only kinds.Int l n a v c r p = absurd (false≢true l)
    tag_only kinds.Ptr l n a v c r p = absurd (n refl)
    tag_only kinds.Array l n a v c r p = absurd (a refl)
    tag_only kinds.Struct l n a v c r p = absurd (false≢true l)
    tag_only kinds.Union l n a v c r p = absurd (false≢true l)
    tag_only kinds.Enum l n a v c r p = absurd (false≢true l)
    tag_only kinds.Fwd l n a v c r p = absurd (false≢true l)
    tag_only kinds.Typedef l n a v c r p = absurd (false≢true l)
    tag_only kinds.Volatile l n a v c r p = absurd (v refl)
    tag_only kinds.Const l n a v c r p = absurd (c refl)
    tag_only kinds.Restrict l n a v c r p = absurd (r refl)
    tag_only kinds.Func l n a v c r p = absurd (false≢true l)
    tag_only kinds.FuncProto l n a v c r p = absurd (p refl)
    tag_only kinds.Var l n a v c r p = absurd (false≢true l)
    tag_only kinds.Datasec l n a v c r p = absurd (false≢true l)
    tag_only kinds.Float l n a v c r p = absurd (false≢true l)
    tag_only kinds.DeclTag l n a v c r p = absurd (false≢true l)
    tag_only kinds.TypeTag l n a v c r p = refl
    tag_only kinds.Enum64 l n a v c r p = absurd (false≢true l)
    tag_only kinds.Unknown l n a v c r p = absurd (false≢true l)

    pub links_tag : (k : Kind) → k ≡ kind_named (kind_of t.info) → (k ≡ kinds.Ptr → ⊥) → (k ≡ kinds.Array → ⊥) → (k ≡ kinds.Volatile → ⊥) → (k ≡ kinds.Const → ⊥) → (k ≡ kinds.Restrict → ⊥) → (k ≡ kinds.FuncProto → ⊥) → k ≡ kinds.TypeTag
    links_tag k ek n a v q r p = tag_only k (ap is_link ek ∙ leads_on) n a v q r p
