-- Which kinds lead on, which are qualifiers, and the entry of a type by its kind. Assumes nothing.
use Prim.Native.Nat.{ℕ}
use mathlib.Core.Path.{◌≡◌, refl, ap, ◌∙◌, sym, subst}
use mathlib.Core.List.{List, [], ◌∷◌}
use mathlib.Core.Bool.{Bool, true, false, false≢true}
use Rattle.spec_c_dumper.specs.rules.Types.{Name, Param, Qualifier}
use Rattle.spec_c_dumper.specs.rules.Decl.{Entry, base, star, qual, array, proto, tag, ends, leads, link_of, mods, no_mods, is_array}
use Rattle.spec_c_dumper.specs.rules.Chain.{entry_by, target_by}
use Rattle.spec_type_table.specs.declared.types.TypeTable.{TypeTable}
use Rattle.spec_type_table.specs.declared.types.BtfType.{BtfType as Record}
use Rattle.spec_type_table.specs.declared.kind.Kind.{Kind}
use Rattle.spec_type_table.specs.declared.kind.Kind.TheVariants.{Void, Int, Ptr, Array, Struct, Union, Enum, Fwd, Typedef, Volatile, Const, Restrict, Func, FuncProto, Var, Datasec, Float, DeclTag, TypeTag, Enum64, Unknown}
use Rattle.spec_type_table.specs.Kinds.{kind_named}
use Rattle.spec_type_table.specs.Records.{kind_of, flag_of, record_by_id}
use Rattle.spec_type_table.specs.Table.{type_of, record_name, nelems_word, params_of}
use Rattle.spec_type_table.proofs.KindTypes.{type_as, type_is}
use Rattle.c_dumper_bodies.specs.chain.Chains.{is_link, is_qualifier, qualifier_of, next_of, entry_of}

-- ---- the links of a kind
module _ (b : TypeTable) (s : List ℕ) (t : Record) where
  abbrev kind_lem : Kind
  kind_lem = kind_named (kind_of t.info)

  link_as : (y : Kind) → kind_lem ≡ y → link_of (type_of b s t) ≡ link_of (type_as b s t y)
  link_as y p = ap link_of (type_is b s t _ refl y p)

  on_as : (id x : ℕ) (y : Kind) → is_link y ≡ true → link_of (type_as b s t y) ≡ leads (entry_by id (link_of (type_as b s t y))) (target_by x (link_of (type_as b s t y)))
  on_as id x Void h = absurd (false≢true h)
  on_as id x Int h = absurd (false≢true h)
  on_as id x Ptr h = refl
  on_as id x Array h = refl
  on_as id x Struct h = absurd (false≢true h)
  on_as id x Union h = absurd (false≢true h)
  on_as id x Enum h = absurd (false≢true h)
  on_as id x Fwd h = absurd (false≢true h)
  on_as id x Typedef h = absurd (false≢true h)
  on_as id x Volatile h = refl
  on_as id x Const h = refl
  on_as id x Restrict h = refl
  on_as id x Func h = absurd (false≢true h)
  on_as id x FuncProto h = refl
  on_as id x Var h = absurd (false≢true h)
  on_as id x Datasec h = absurd (false≢true h)
  on_as id x Float h = absurd (false≢true h)
  on_as id x DeclTag h = absurd (false≢true h)
  on_as id x TypeTag h = refl
  on_as id x Enum64 h = absurd (false≢true h)
  on_as id x Unknown h = absurd (false≢true h)

  ends_as : (y : Kind) → is_link y ≡ false → link_of (type_as b s t y) ≡ ends
  ends_as Void h = refl
  ends_as Int h = refl
  ends_as Ptr h = absurd (false≢true (sym h))
  ends_as Array h = absurd (false≢true (sym h))
  ends_as Struct h = refl
  ends_as Union h = refl
  ends_as Enum h = refl
  ends_as Fwd h = refl
  ends_as Typedef h = refl
  ends_as Volatile h = absurd (false≢true (sym h))
  ends_as Const h = absurd (false≢true (sym h))
  ends_as Restrict h = absurd (false≢true (sym h))
  ends_as Func h = refl
  ends_as FuncProto h = absurd (false≢true (sym h))
  ends_as Var h = refl
  ends_as Datasec h = refl
  ends_as Float h = refl
  ends_as DeclTag h = refl
  ends_as TypeTag h = absurd (false≢true (sym h))
  ends_as Enum64 h = refl
  ends_as Unknown h = refl

  -- a link of the code is one of the rules
  pub link_leads : (id : ℕ) → is_link kind_lem ≡ true → link_of (type_of b s t) ≡ leads (entry_by id (link_of (type_of b s t))) (next_of b s t)
  unfolding next_of
  link_leads id h =
      let e = link_as kind_lem refl in
      e ∙ on_as id t.type_id kind_lem h ∙ ap (λ l. leads (entry_by id l) (target_by t.type_id l)) (sym e)

  pub link_ends : is_link kind_lem ≡ false → link_of (type_of b s t) ≡ ends
  link_ends h = link_as kind_lem refl ∙ ends_as kind_lem h

-- ---- the entry of a type, by the kind of its record
module _ (b : TypeTable) (s w : List ℕ) (id : ℕ) (t : Record) (et : t ≡ record_by_id b s w id) where
  entry_kind : (y : Kind) → kind_named (kind_of t.info) ≡ y → entry_of b s w id ≡ entry_by id (link_of (type_as b s t y))
  unfolding entry_of
  entry_kind y p = ap (λ (r : Record). entry_by id (link_of (type_of b s r))) (sym et) ∙ ap (entry_by id) (link_as b s t y p)

  pub entry_star_lem : kind_named (kind_of t.info) ≡ Ptr → entry_of b s w id ≡ star
  entry_star_lem p = entry_kind Ptr p

  pub entry_array : kind_named (kind_of t.info) ≡ Array → entry_of b s w id ≡ array (nelems_word b s t)
  entry_array p = entry_kind Array p

  pub entry_proto : kind_named (kind_of t.info) ≡ FuncProto → entry_of b s w id ≡ proto (params_of b s t)
  entry_proto p = entry_kind FuncProto p

  pub entry_tag : kind_named (kind_of t.info) ≡ TypeTag → entry_of b s w id ≡ tag (flag_of t.info) (record_name b s t)
  entry_tag p = entry_kind TypeTag p

  pub entry_base : is_link (kind_named (kind_of t.info)) ≡ false → entry_of b s w id ≡ base id
  unfolding entry_of
  entry_base h = ap (λ (y : Record). entry_by id (link_of (type_of b s y))) (sym et) ∙ ap (entry_by id) (link_ends b s t h)

  qual_as : (y : Kind) → is_qualifier y ≡ true → entry_by id (link_of (type_as b s t y)) ≡ qual (qualifier_of y)
  qual_as Void h = absurd (false≢true h)
  qual_as Int h = absurd (false≢true h)
  qual_as Ptr h = absurd (false≢true h)
  qual_as Array h = absurd (false≢true h)
  qual_as Struct h = absurd (false≢true h)
  qual_as Union h = absurd (false≢true h)
  qual_as Enum h = absurd (false≢true h)
  qual_as Fwd h = absurd (false≢true h)
  qual_as Typedef h = absurd (false≢true h)
  qual_as Volatile h = refl
  qual_as Const h = refl
  qual_as Restrict h = refl
  qual_as Func h = absurd (false≢true h)
  qual_as FuncProto h = absurd (false≢true h)
  qual_as Var h = absurd (false≢true h)
  qual_as Datasec h = absurd (false≢true h)
  qual_as Float h = absurd (false≢true h)
  qual_as DeclTag h = absurd (false≢true h)
  qual_as TypeTag h = absurd (false≢true h)
  qual_as Enum64 h = absurd (false≢true h)
  qual_as Unknown h = absurd (false≢true h)

  pub entry_qual : is_qualifier (kind_named (kind_of t.info)) ≡ true → entry_of b s w id ≡ qual (qualifier_of (kind_named (kind_of t.info)))
  entry_qual h = entry_kind _ refl ∙ qual_as _ h

  -- an entry is a qualifier of a qualifier's kind, or another
  entry_as : (P : Entry → Type 0) → P (base id) → P star → ((n : ℕ) → P (array n)) → ((ps : List Param) → P (proto ps)) → ((a : Bool) (n : Name) → P (tag a n))
      → (y : Kind) → ((q : Qualifier) → is_qualifier y ≡ true → P (qual q)) → P (entry_by id (link_of (type_as b s t y)))
  entry_as P pb ps pa pp pt Void pq = pb
  entry_as P pb ps pa pp pt Int pq = pb
  entry_as P pb ps pa pp pt Ptr pq = ps
  entry_as P pb ps pa pp pt Array pq = pa _
  entry_as P pb ps pa pp pt Struct pq = pb
  entry_as P pb ps pa pp pt Union pq = pb
  entry_as P pb ps pa pp pt Enum pq = pb
  entry_as P pb ps pa pp pt Fwd pq = pb
  entry_as P pb ps pa pp pt Typedef pq = pb
  entry_as P pb ps pa pp pt Volatile pq = pq _ refl
  entry_as P pb ps pa pp pt Const pq = pq _ refl
  entry_as P pb ps pa pp pt Restrict pq = pq _ refl
  entry_as P pb ps pa pp pt Func pq = pb
  entry_as P pb ps pa pp pt FuncProto pq = pp _
  entry_as P pb ps pa pp pt Var pq = pb
  entry_as P pb ps pa pp pt Datasec pq = pb
  entry_as P pb ps pa pp pt Float pq = pb
  entry_as P pb ps pa pp pt DeclTag pq = pb
  entry_as P pb ps pa pp pt TypeTag pq = pt _ _
  entry_as P pb ps pa pp pt Enum64 pq = pb
  entry_as P pb ps pa pp pt Unknown pq = pb

  by_entry : (P : Entry → Type 0) → P (base id) → P star → ((n : ℕ) → P (array n)) → ((ps : List Param) → P (proto ps)) → ((a : Bool) (n : Name) → P (tag a n))
      → ((q : Qualifier) → is_qualifier (kind_named (kind_of t.info)) ≡ true → P (qual q)) → P (entry_of b s w id)
  by_entry P pb ps pa pp pt pq = subst P (sym (entry_kind _ refl)) (entry_as P pb ps pa pp pt (kind_named (kind_of t.info)) pq)

  pub stays_on : (c : List Entry) → is_qualifier (kind_named (kind_of t.info)) ≡ false → no_mods (entry_of b s w id ∷ c) ≡ entry_of b s w id ∷ c
  unfolding no_mods
  stays_on c f = by_entry (λ e. no_mods (e ∷ c) ≡ e ∷ c) refl refl (λ n. refl) (λ ps. refl) (λ a n. refl) (λ q h. absurd (false≢true (sym f ∙ h)))

  pub no_words : (c : List Entry) → is_qualifier (kind_named (kind_of t.info)) ≡ false → mods (entry_of b s w id ∷ c) ≡ []
  unfolding mods
  no_words c f = by_entry (λ e. mods (e ∷ c) ≡ []) refl refl (λ n. refl) (λ ps. refl) (λ a n. refl) (λ q h. absurd (false≢true (sym f ∙ h)))

  -- whether an array is on top
  pub array_on : kind_named (kind_of t.info) ≡ Array → is_array (entry_of b s w id) ≡ true
  array_on p = ap is_array (entry_array p)

  off_as : (y : Kind) → (y ≡ Array → ⊥) → is_array (entry_by id (link_of (type_as b s t y))) ≡ false
  off_as Void n = refl
  off_as Int n = refl
  off_as Ptr n = refl
  off_as Array n = absurd (n refl)
  off_as Struct n = refl
  off_as Union n = refl
  off_as Enum n = refl
  off_as Fwd n = refl
  off_as Typedef n = refl
  off_as Volatile n = refl
  off_as Const n = refl
  off_as Restrict n = refl
  off_as Func n = refl
  off_as FuncProto n = refl
  off_as Var n = refl
  off_as Datasec n = refl
  off_as Float n = refl
  off_as DeclTag n = refl
  off_as TypeTag n = refl
  off_as Enum64 n = refl
  off_as Unknown n = refl

  pub array_off : (kind_named (kind_of t.info) ≡ Array → ⊥) → is_array (entry_of b s w id) ≡ false
  array_off n = ap is_array (entry_kind _ refl) ∙ off_as _ n
