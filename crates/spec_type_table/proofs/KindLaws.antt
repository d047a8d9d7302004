-- The kinds 0 to 19 and those from 20 on: an eliminator, and the type of a record of each kind. Assumes nothing.
use Prim.Native.Nat.{ℕ, zero, suc, ◌+◌, ◌%◌, ◌-◌, ◌<◌, ◌≤◌}
use mathlib.Core.Path.{◌≡◌, refl, ap, ◌∙◌, sym}
use mathlib.Core.List.{List, ◌∷◌}
use mathlib.Core.Bool.{Bool, true, false}
use native.Mathlib.Omega.{arith}
use Rattle.spec_c_dumper.specs.rules.Types.{Void, Int, Ptr, Array, Composite, Enum, Enum64, Fwd, Typedef, Mod, Func, Var, Datasec, FuncProto, Float, DeclTag, TypeTag, volatile, const, restrict, node_of, member_types, param_types}
use Rattle.spec_c_dumper.specs.rules.Order.{comp}
use Rattle.spec_type_table.specs.declared.types.TypeTable.{TypeTable}
use Rattle.spec_type_table.specs.declared.types.BtfType.{BtfType as Record}
use Rattle.spec_type_table.specs.declared.types.Entries.{Entries}
use Rattle.spec_type_table.specs.declared.node.Node.TheVariants as code
use Rattle.spec_type_table.specs.Records.{section_word, kind_of, flag_of, vlen_of, member_at, param_at, member_of, entries_of}
use Rattle.spec_type_table.specs.Table.{from, rule_member, param_of, record_name, extra_word, nelems_word, members_of, params_of, values_of, values64_of, type_of}
use Rattle.spec_type_table.specs.Nodes.{node_is, member_ids, param_ids}

cases : (P : ℕ → Type 0) → P 0 → ((k : ℕ) → P (suc k)) → (k : ℕ) → P k
cases P z s zero = z
cases P z s (suc k) = s k

-- every kind: 0 to 19, and those that are 20 or more
pub by_kind : (P : ℕ → Type 0) → P 0 → P 1 → P 2 → P 3 → P 4 → P 5 → P 6 → P 7 → P 8 → P 9 → P 10 → P 11 → P 12 → P 13 → P 14 → P 15 → P 16 → P 17 → P 18 → P 19 → ((k : ℕ) → 20 ≤ k → P k) → (k : ℕ) → P k
by_kind P p0 p1 p2 p3 p4 p5 p6 p7 p8 p9 p10 p11 p12 p13 p14 p15 p16 p17 p18 p19 rest k = (cases P p0 (cases (λ k. P (suc k)) p1 (cases (λ k. P (suc (suc k))) p2 (cases (λ k. P (suc (suc (suc k)))) p3 (cases (λ k. P (suc (suc (suc (suc k))))) p4 (cases (λ k. P (suc (suc (suc (suc (suc k)))))) p5 (cases (λ k. P (suc (suc (suc (suc (suc (suc k))))))) p6 (cases (λ k. P (suc (suc (suc (suc (suc (suc (suc k)))))))) p7 (cases (λ k. P (suc (suc (suc (suc (suc (suc (suc (suc k))))))))) p8 (cases (λ k. P (suc (suc (suc (suc (suc (suc (suc (suc (suc k)))))))))) p9 (cases (λ k. P (suc (suc (suc (suc (suc (suc (suc (suc (suc (suc k))))))))))) p10 (cases (λ k. P (suc (suc (suc (suc (suc (suc (suc (suc (suc (suc (suc k)))))))))))) p11 (cases (λ k. P (suc (suc (suc (suc (suc (suc (suc (suc (suc (suc (suc (suc k))))))))))))) p12 (cases (λ k. P (suc (suc (suc (suc (suc (suc (suc (suc (suc (suc (suc (suc (suc k)))))))))))))) p13 (cases (λ k. P (suc (suc (suc (suc (suc (suc (suc (suc (suc (suc (suc (suc (suc (suc k))))))))))))))) p14 (cases (λ k. P (suc (suc (suc (suc (suc (suc (suc (suc (suc (suc (suc (suc (suc (suc (suc k)))))))))))))))) p15 (cases (λ k. P (suc (suc (suc (suc (suc (suc (suc (suc (suc (suc (suc (suc (suc (suc (suc (suc k))))))))))))))))) p16 (cases (λ k. P (suc (suc (suc (suc (suc (suc (suc (suc (suc (suc (suc (suc (suc (suc (suc (suc (suc k)))))))))))))))))) p17 (cases (λ k. P (suc (suc (suc (suc (suc (suc (suc (suc (suc (suc (suc (suc (suc (suc (suc (suc (suc (suc k))))))))))))))))))) p18 (cases (λ k. P (suc (suc (suc (suc (suc (suc (suc (suc (suc (suc (suc (suc (suc (suc (suc (suc (suc (suc (suc k)))))))))))))))))))) p19 (λ k. rest (suc (suc (suc (suc (suc (suc (suc (suc (suc (suc (suc (suc (suc (suc (suc (suc (suc (suc (suc (suc k)))))))))))))))))))) (omega arith)))))))))))))))))))))) k

-- ---- how many bytes follow
module _ (b : TypeTable) (s : List ℕ) (t : Record) where
  pub type_0 : kind_of t.info ≡ 0 → type_of b s t ≡ Void
  unfolding type_of
  type_0 e = rw e

  pub type_1 : kind_of t.info ≡ 1 → type_of b s t ≡ Int (record_name b s t) (extra_word b s t % 256)
  unfolding type_of
  type_1 e = rw e

  pub type_2 : kind_of t.info ≡ 2 → type_of b s t ≡ Ptr t.type_id
  unfolding type_of
  type_2 e = rw e

  pub type_3 : kind_of t.info ≡ 3 → type_of b s t ≡ Array (extra_word b s t) (nelems_word b s t)
  unfolding type_of
  type_3 e = rw e

  pub type_4 : kind_of t.info ≡ 4 → type_of b s t ≡ Composite true (record_name b s t) t.type_id (members_of b s t)
  unfolding type_of
  type_4 e = rw e

  pub type_5 : kind_of t.info ≡ 5 → type_of b s t ≡ Composite false (record_name b s t) t.type_id (members_of b s t)
  unfolding type_of
  type_5 e = rw e

  pub type_6 : kind_of t.info ≡ 6 → type_of b s t ≡ Enum (flag_of t.info) (record_name b s t) t.type_id (values_of b s t)
  unfolding type_of
  type_6 e = rw e

  pub type_7 : kind_of t.info ≡ 7 → type_of b s t ≡ Fwd (flag_of t.info) (record_name b s t)
  unfolding type_of
  type_7 e = rw e

  pub type_8 : kind_of t.info ≡ 8 → type_of b s t ≡ Typedef (record_name b s t) t.type_id
  unfolding type_of
  type_8 e = rw e

  pub type_9 : kind_of t.info ≡ 9 → type_of b s t ≡ Mod volatile t.type_id
  unfolding type_of
  type_9 e = rw e

  pub type_10 : kind_of t.info ≡ 10 → type_of b s t ≡ Mod const t.type_id
  unfolding type_of
  type_10 e = rw e

  pub type_11 : kind_of t.info ≡ 11 → type_of b s t ≡ Mod restrict t.type_id
  unfolding type_of
  type_11 e = rw e

  pub type_12 : kind_of t.info ≡ 12 → type_of b s t ≡ Func (record_name b s t)
  unfolding type_of
  type_12 e = rw e

  pub type_13 : kind_of t.info ≡ 13 → type_of b s t ≡ FuncProto t.type_id (params_of b s t)
  unfolding type_of
  type_13 e = rw e

  pub type_14 : kind_of t.info ≡ 14 → type_of b s t ≡ Var (record_name b s t)
  unfolding type_of
  type_14 e = rw e

  pub type_15 : kind_of t.info ≡ 15 → type_of b s t ≡ Datasec (record_name b s t)
  unfolding type_of
  type_15 e = rw e

  pub type_16 : kind_of t.info ≡ 16 → type_of b s t ≡ Float (record_name b s t) t.type_id
  unfolding type_of
  type_16 e = rw e

  pub type_17 : kind_of t.info ≡ 17 → type_of b s t ≡ DeclTag (flag_of t.info) (record_name b s t) t.type_id (extra_word b s t)
  unfolding type_of
  type_17 e = rw e

  pub type_18 : kind_of t.info ≡ 18 → type_of b s t ≡ TypeTag (flag_of t.info) (record_name b s t) t.type_id
  unfolding type_of
  type_18 e = rw e

  pub type_19 : kind_of t.info ≡ 19 → type_of b s t ≡ Enum64 (flag_of t.info) (record_name b s t) t.type_id (values64_of b s t)
  unfolding type_of
  type_19 e = rw e

  -- a kind that there is not
  pub type_none : 20 ≤ kind_of t.info → type_of b s t ≡ Void
  unfolding type_of
  type_none l = let e : kind_of t.info ≡ (suc (suc (suc (suc (suc (suc (suc (suc (suc (suc (suc (suc (suc (suc (suc (suc (suc (suc (suc (suc (kind_of t.info - 20))))))))))))))))))))) = omega arith in rw e

  -- ---- nodes
  member_type_lem : (k : ℕ) → (member_of b s t k).type_id ≡ section_word b s (member_at t.at k + 4)
  unfolding member_of
  member_type_lem k = go (flag_of t.info) refl
    where
      go : (f : Bool) → flag_of t.info ≡ f → (member_of b s t k).type_id ≡ section_word b s (member_at t.at k + 4)
      go true e = rw (e, member_of)
      go false e = rw (e, member_of)

  member_types_from : (k n : ℕ) → member_types (from (λ i. rule_member b s (member_of b s t i)) k n) ≡ from (λ i. section_word b s (member_at t.at i + 4)) k n
  unfolding from
  member_types_from k zero = refl
  member_types_from k (suc n) = λ i. member_type_lem k i ∷ member_types_from (k + 1) n i

  param_types_from : (k n : ℕ) → param_types (from (param_of b s t.at) k n) ≡ from (λ i. section_word b s (param_at t.at i + 4)) k n
  unfolding from param_of
  param_types_from k zero = refl
  param_types_from k (suc n) = ap (λ (l : List ℕ). section_word b s (param_at t.at k + 4) ∷ l) (param_types_from (k + 1) n)

  pub member_types_lem : member_types (members_of b s t) ≡ member_ids b s (entries_of t)
  unfolding member_ids
  member_types_lem = member_types_from 0 (vlen_of t.info)

  pub param_types_lem : param_types (params_of b s t) ≡ param_ids b s (entries_of t)
  unfolding param_ids
  param_types_lem = param_types_from 0 (vlen_of t.info)

  module _ (k : ℕ) (ek : k ≡ kind_of t.info) where
    module _ (x : Entries) (p : x ≡ entries_of t) where
      same_members : node_is b s (code.Composite x) ≡ comp (member_types (members_of b s t))
      unfolding node_is
      same_members = ap (λ (y : Entries). comp (member_ids b s y)) p ∙ ap comp (sym member_types_lem)

      pub node_composite : 2 ≤ k → k < 6 → (k ≡ 2 → ⊥) → (k ≡ 3 → ⊥) → node_is b s (code.Composite x) ≡ node_of (type_of b s t)
      node_composite =
          by_kind
          (λ k. k ≡ kind_of t.info → 2 ≤ k → k < 6 → (k ≡ 2 → ⊥) → (k ≡ 3 → ⊥) → node_is b s (code.Composite x) ≡ node_of (type_of b s t))
          (λ e h0 h1 h2 h3. absurd (omega arith))
          (λ e h0 h1 h2 h3. absurd (omega arith))
          (λ e h0 h1 h2 h3. absurd (h2 refl))
          (λ e h0 h1 h2 h3. absurd (h3 refl))
          (λ e h0 h1 h2 h3. same_members ∙ sym (ap node_of (type_4 (sym e))))
          (λ e h0 h1 h2 h3. same_members ∙ sym (ap node_of (type_5 (sym e))))
          (λ e h0 h1 h2 h3. absurd (omega arith))
          (λ e h0 h1 h2 h3. absurd (omega arith))
          (λ e h0 h1 h2 h3. absurd (omega arith))
          (λ e h0 h1 h2 h3. absurd (omega arith))
          (λ e h0 h1 h2 h3. absurd (omega arith))
          (λ e h0 h1 h2 h3. absurd (omega arith))
          (λ e h0 h1 h2 h3. absurd (omega arith))
          (λ e h0 h1 h2 h3. absurd (omega arith))
          (λ e h0 h1 h2 h3. absurd (omega arith))
          (λ e h0 h1 h2 h3. absurd (omega arith))
          (λ e h0 h1 h2 h3. absurd (omega arith))
          (λ e h0 h1 h2 h3. absurd (omega arith))
          (λ e h0 h1 h2 h3. absurd (omega arith))
          (λ e h0 h1 h2 h3. absurd (omega arith))
          (λ m l e h0 h1 h2 h3. absurd (omega arith))
          k ek
