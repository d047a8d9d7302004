-- What it means that a type of a table has a given chain: "the chain" of emit_type_decl, entry by entry, with the words that its bases
-- print and the names that they take on the way.
use Rattle.std.specs.Prelude.{ℕ, ◌≡◌, Bool, true, false, ◌&&◌, List, [], ◌∷◌, eqb}
use Rattle.spec_bytes.specs.text.Text.{whole}
use Rattle.spec_c_dumper.specs.rules.Types.{Name, Qualifier, Param, Btf, Member}
use Rattle.spec_c_dumper.specs.rules.Names.{Naming}
use Rattle.spec_c_dumper.specs.rules.Writer.{got, Writer, said}
use Rattle.spec_c_dumper.specs.rules.Decl.{Entry, base, star, qual, array as count, proto as list, chain_of, no_params, shown_params}
use Rattle.spec_c_dumper.specs.rules.Decl.{base_word}
use Rattle.session_declaration_reader.specs.grammar.Chain.{Layers, named, pointer, array, proto, Params, closed, dots, param, Chain}
use Rattle.proof_declaration_reader.specs.Written.{spaced}

-- qualifiers, the one that stands nearest first
abbrev pub qual_entries : List Qualifier → List Entry → List Entry
qual_entries [] c = c
qual_entries (q ∷ qs) c = qual q ∷ qual_entries qs c

module _ {U : Type 0} (N : Naming U) (B : Btf) where
  -- a base prints these words, whatever stands around it; m: the names held at each byte of them
  abbrev pub Prints : ℕ → List (List ℕ) → U → U → Type 0
  Prints b ws u v =
      (decl : ℕ → Name → ℕ → Writer U) (chain : List Entry → Name → ℕ → Writer U) (def : ℕ → Bool → Name → ℕ → List Member → ℕ → Writer U)
      (fname : Name) (lvl : ℕ)
      → (m : List U) × (base_word N B decl chain def fname lvl b (B.type_by_id b) u ≡ said v (whole (spaced ws)) m)

  abbrev mutual
    -- entries behind the base; the names are u before and v after
    pub LayersAre : Layers (List ℕ) → List Entry → U → U → Type 0
    LayersAre named c u v = (c ≡ []) × (u ≡ v)
    LayersAre (pointer q l) c u v = (d : List Entry) × (c ≡ star ∷ qual_entries q d) × LayersAre l d u v
    LayersAre (array n l) c u v = (d : List Entry) × (c ≡ count n ∷ d) × LayersAre l d u v
    LayersAre (proto ps l) c u v =
        (d : List Entry) × (xs : List Param) × (w : U) × (c ≡ list xs ∷ d) × LayersAre l d u w × ParamsAre ps (shown_params xs) w v

    -- parameters, which have no names; a last one of type void is `...`
    pub ParamsAre : Params (List ℕ) → List Param → U → U → Type 0
    ParamsAre closed xs u v = (xs ≡ []) × (u ≡ v)
    ParamsAre dots xs u v = (x : Param) × (xs ≡ x ∷ []) × (eqb x.type_id 0 ≡ true) × (u ≡ v)
    ParamsAre (param q ws l ps) xs u v =
        (x : Param) × (ys : List Param) × (b : ℕ) × (d : List Entry) × (w₁ : U) × (w₂ : U)
        × (xs ≡ x ∷ ys) × (x.name ≡ []) × ((no_params ys && eqb x.type_id 0) ≡ false)
        × (chain_of 512 B x.type_id [] ≡ got (base b ∷ qual_entries q d)) × Prints b ws u w₁ × LayersAre l d w₁ w₂ × ParamsAre ps ys w₂ v

  -- type id has the chain c
  pub record Draws (id : ℕ) (c : Chain (List ℕ)) (u v : U) : Type 0 where
    pub base_id : ℕ
    pub behind : List Entry
    pub between : U
    pub chains : chain_of 512 B id [] ≡ got (base base_id ∷ qual_entries c.quals behind)
    pub prints : Prints base_id c.words u between
    pub layers_are : LayersAre c.layers behind between v
