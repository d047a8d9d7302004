-- Cause 8: "a loop of pointers, arrays, qualifiers, type tags, typedefs, prototypes only".
use Rattle.std.specs.Prelude.{ℕ, suc, ◌≤◌, ◌<◌, ◌≡◌, Bool, true, false, List, [], ◌∷◌}
use Rattle.std.proofs.Common.{arith}
use Rattle.std.proofs.Math.Path.{refl}
use Rattle.spec_bytes.specs.words.Words.{pick}
use Rattle.spec_type_table.specs.declared.types.TypeTable.{TypeTable}
use Rattle.btf_open_causes.specs.references.Followed.{is_kind_among, composites, type_count, place_of, kind_at}
use Rattle.btf_open_causes.specs.references.Followed.{count_at, followed_count, followed_id}
use Rattle.btf_open_causes.specs.references.Bounds.{count_fits, followed_few, followed_none}
use Rattle.btf_open_causes.specs.loops.Graph.{Graph}

-- PTR, ARRAY, TYPEDEF, VOLATILE, CONST, RESTRICT, FUNC_PROTO, TYPE_TAG
abbrev pub passing : List ℕ
passing = 2 ∷ 3 ∷ 8 ∷ 9 ∷ 10 ∷ 11 ∷ 13 ∷ 18 ∷ []

-- every type is a node; a composite has no successors, so that no loop passes it, and what follows no id has none either
unfoldable pub deg_at : TypeTable → List ℕ → ℕ → ℕ → ℕ
deg_at b s kind at = pick (is_kind_among composites kind) 0 (count_at b s kind at)

module _ (b : TypeTable) (s start : List ℕ) where
  unfoldable pub deg_of : ℕ → ℕ
  deg_of x = deg_at b s (kind_at b start x) (place_of b start x)

  -- it follows what the type follows, but for a composite
  pub deg_is : (x : ℕ) → deg_of x ≡ pick (is_kind_among composites (kind_at b start x)) 0 (followed_count b s start x)
  unfolding deg_of deg_at followed_count
  deg_is x = refl

  pub deg_few : (x : ℕ) → deg_of x ≤ 65536
  deg_few x = rw (deg_is x) (go (is_kind_among composites (kind_at b start x)))
    where
      go : (t : Bool) → pick t 0 (followed_count b s start x) ≤ 65536
      go true = omega arith
      go false = followed_few b s start x

  pub deg_out : (x : ℕ) → type_count b ≤ x → deg_of x ≡ 0
  deg_out x h = rw (deg_is x) (go (is_kind_among composites (kind_at b start x)))
    where
      go : (t : Bool) → pick t 0 (followed_count b s start x) ≡ 0
      go true = refl
      go false = followed_none b s start x h

  abbrev pub graph_of : Graph
  graph_of = record { size = type_count b; deg = deg_of; to = followed_id b s start; fits = count_fits b; few = deg_few; out = deg_out }

  -- a loop in the table's own terms: n ≥ 1 and types x 0, .., x n = x 0 of the passing kinds, each a followed id of the one before
  pub record TypeLoop : Type 0 where
    pub n : ℕ
    pub x : ℕ → ℕ
    pub some : 1 ≤ n
    pub round : x n ≡ x 0
    pub kinds : (i : ℕ) → i ≤ n → is_kind_among passing (kind_at b start (x i)) ≡ true
    pub follows : (i : ℕ) → i < n → (k : ℕ) × (k < followed_count b s start (x i)) × (followed_id b s start (x i) k ≡ x (suc i))
