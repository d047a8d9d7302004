-- A chain by two numbers: the id that it starts from, and how many entries it has. Entry k is k steps from the start.
use Rattle.std.specs.Prelude.{ℕ, zero, suc, ◌≡◌, Option, Some, None, Bool, true, false, List, [], ◌∷◌, ◌++◌, length, ltb}
use Rattle.spec_bytes.specs.text.Text.{ascii}
use Rattle.spec_c_dumper.specs.rules.Writer.{Ask, got, no}
use Rattle.spec_c_dumper.specs.rules.Types.{Qualifier, volatile, const, restrict}
use Rattle.spec_c_dumper.specs.rules.Decl.{Entry, base, star, qual, array, proto, tag, link_of, qualifier, no_mods}
use Rattle.spec_c_dumper.specs.rules.Chain.{entry_by, target_by}
use Rattle.spec_type_table.specs.declared.types.TypeTable.{TypeTable}
use Rattle.spec_type_table.specs.declared.types.BtfType.{BtfType as Record}
use Rattle.spec_type_table.specs.declared.kind.Kind.{Kind}
use Rattle.spec_type_table.specs.declared.kind.Kind.TheVariants.{Ptr, Array, Volatile, Const, Restrict, FuncProto, TypeTag}
use Rattle.spec_type_table.specs.Kinds.{kind_named}
use Rattle.spec_type_table.specs.Records.{kind_of, record_by_id}
use Rattle.spec_type_table.specs.Table.{type_of}
use Rattle.c_dumper_bodies.specs.declared.chain.links.Base.{Base}

-- whether a kind leads on in a chain
abbrev pub is_link : Kind → Bool
is_link Ptr = true
is_link Array = true
is_link Volatile = true
is_link Const = true
is_link Restrict = true
is_link FuncProto = true
is_link TypeTag = true
is_link _ = false

abbrev pub is_qualifier : Kind → Bool
is_qualifier Volatile = true
is_qualifier Const = true
is_qualifier Restrict = true
is_qualifier _ = false

-- the qualifier of a kind; the last for every other kind too
abbrev pub qualifier_of : Kind → Qualifier
qualifier_of Volatile = volatile
qualifier_of Const = const
qualifier_of _ = restrict

-- whether every entry leads on: in a chain the base, on top, is the only one that does not
unfoldable pub only_links : List Entry → Bool
only_links [] = true
only_links (base id ∷ c) = false
only_links (star ∷ c) = only_links c
only_links (qual q ∷ c) = only_links c
only_links (array k ∷ c) = only_links c
only_links (proto ps ∷ c) = only_links c
only_links (tag a name ∷ c) = only_links c

module _ (b : TypeTable) (s : List ℕ) where
  -- the id that a record leads to; its type field, where it leads nowhere
  unfoldable pub next_of : Record → ℕ
  next_of t = target_by t.type_id (link_of (type_of b s t))

  module _ (w : List ℕ) where
    -- the entry of a type: the base, or what its link has
    unfoldable pub entry_of : ℕ → Entry
    entry_of id = entry_by id (link_of (type_of b s (record_by_id b s w id)))

    -- the record that comes with a base is the one of its id
    unfoldable pub RecordIs : Option Base → Type 0
    RecordIs (Some y) = y.x.t ≡ record_by_id b s w y.x.id
    RecordIs None = Unit {0}

    module _ (start : ℕ) where
      -- the id of entry k
      unfoldable pub path_at : ℕ → ℕ
      path_at zero = start
      path_at (suc k) = next_of (record_by_id b s w (path_at k))

      -- n entries, the last on top
      unfoldable pub chain_at : ℕ → List Entry
      chain_at zero = []
      chain_at (suc n) = entry_of (path_at n) ∷ chain_at n

      -- none of the first n entries is a base
      abbrev pub LeadOn : ℕ → Type 0
      LeadOn n = only_links (chain_at n) ≡ true

      -- what the code's answer says of the chain: without a base it is too deep
      unfoldable pub chain_is : Option Base → Ask (List Entry)
      chain_is (Some y) = got (base y.x.id ∷ chain_at y.n)
      chain_is None = no 12

      -- the kind of entry k
      unfoldable pub kind_at : ℕ → Kind
      kind_at k = kind_named (kind_of (record_by_id b s w (path_at k)).info)

      -- how many of n entries stay when the qualifiers on top are popped
      unfoldable pub skipped : ℕ → ℕ
      skipped n = length (no_mods (chain_at n))

      -- the word of each of the entries above the first m, from the top down, with a space after it
      unfoldable pub mods_down : ℕ → ℕ → List ℕ
      mods_down m zero = []
      mods_down m (suc n) =
          elim (ltb m (suc n)) [ true ↦ qualifier (qualifier_of (kind_at n)) ++ ascii " " ++ mods_down m n | false ↦ [] ]
