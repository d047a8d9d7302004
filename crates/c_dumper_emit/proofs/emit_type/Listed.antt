-- The listed ids: the walk, and that the order list is as it was. The ids of entries. Assumes nothing.
use Prim.Native.Nat.{ℕ, ◌+◌, ◌<◌, ◌≤◌}
use mathlib.Core.Path.{◌≡◌, refl, ap, ◌∙◌, sym, subst}
use mathlib.Core.List.{List}
use native.Mathlib.Omega.{arith}
use Rattle.std.specs.Prelude.{Ok, Err, IsErrAnd}
use Rattle.spec_bytes.specs.declared.refusal.Refusal.{Refusal}
use Rattle.spec_c_dumper.specs.rules.Machine.{Out, obind, eeach}
use Rattle.spec_type_table.specs.declared.types.TypeTable.{TypeTable}
use Rattle.spec_type_table.specs.Cells.{get_field}
use Rattle.spec_type_table.specs.Table.{from, btf_of}
use Rattle.c_dumper_dependency_order.specs.order_state.Work.{work_store}
use Rattle.spec_session.specs.emission.Slices.{Slices, slices_store}
use Rattle.spec_session.proofs.emission.Frame.{places}
use Rattle.spec_c_dumper.specs.origins.Causes.{Entry, Traced}
use Rattle.c_dumper_emit.specs.declared.entries.Pen.{Pen}
use Rattle.c_dumper_dependency_order.specs.declared.entries.Held.{Held}
use Rattle.c_dumper_dependency_order.specs.entries.Entries.{count_of, entry_type, entry_ids}
use Rattle.c_dumper_emit.specs.entries.Traced.{Lent, traced_out, emit_n}
use Rattle.c_dumper_emit.proofs.entries.Frame.{Stays, stays_then, places_emit}
use Rattle.c_dumper_emit.proofs.entries.Laws.{Penned, kept_by, at_pen, entry_stays}
use Rattle.c_dumper_emit.proofs.entries.Walk.{Rest, rest_start, rest_turn, rest_end, rest_halts}

pub record Listing (b : TypeTable) (s : List ℕ) (lent : Lent) (why : ℕ → Entry) (w₀ : List ℕ) (n : ℕ) (p₀ : Pen) (tx₀ l₀ : List ℕ) (p : Penned) (tx w li : List ℕ) (k : ℕ) : Type 0 where
  pub rest : Rest b s lent why w₀ 512 0 (places w₀) n p₀ tx₀ l₀ n p tx w li k
  pub list : Stays places w₀ (traced_out n p tx w li)

module _ (b : TypeTable) (s : List ℕ) (lent : Lent) (why : ℕ → Entry) (w₀ : List ℕ) (n : ℕ) (p₀ : Pen) (tx₀ l₀ : List ℕ) where
  pub listing_start : Listing b s lent why w₀ n p₀ tx₀ l₀ (Ok p₀) tx₀ w₀ l₀ 0
  listing_start = record { rest = rest_start b s lent why w₀ 512 0 (places w₀) n p₀ tx₀ l₀ n; list = entry_stays b s places n p₀ tx₀ w₀ l₀ }

  -- the ids of the list
  all_listed : obind (traced_out n (Ok p₀) tx₀ w₀ l₀) (λ m. eeach (emit_n b (btf_of b s w₀) lent why 512 0) (from (places w₀) 0 n) m) ≡ obind (traced_out n (Ok p₀) tx₀ w₀ l₀) (λ m. eeach (emit_n b (btf_of b s w₀) lent why 512 0) (slices_store.list m.mach) m)
  unfolding slices_store work_store
  all_listed = at_pen n p₀ tx₀ w₀ l₀ (λ m. eeach (emit_n b (btf_of b s w₀) lent why 512 0) (from (places w₀) 0 n) m) (λ m. eeach (emit_n b (btf_of b s w₀) lent why 512 0) (slices_store.list m.mach) m) refl

  module _ (p : Pen) (tx w li : List ℕ) (k : ℕ) (inv : Listing b s lent why w₀ n p₀ tx₀ l₀ (Ok p) tx w li k) where
    pub listing_turn : k < n → (y : ℕ) → y ≡ get_field w k 11 → (lent₁ : Lent) → lent₁ ≡ lent → (q : Penned) (tx₁ w₁ l₁ : List ℕ) → traced_out n q tx₁ w₁ l₁ ≡ obind (traced_out n (Ok p) tx w li) (λ m. emit_n b (btf_of b s w) lent₁ why 512 0 m y)
        → Listing b s lent why w₀ n p₀ tx₀ l₀ q tx₁ w₁ l₁ (k + 1)
    listing_turn h y ey lent₁ er q tx₁ w₁ l₁ e = record {
      rest = rest_turn b s lent why w₀ 512 0 (places w₀) n p₀ tx₀ l₀ n p tx w li k inv.rest y (ey ∙ ap (λ (f : ℕ → ℕ). f k) (kept_by places n p tx w li w₀ inv.list)) lent₁ er q tx₁ w₁ l₁ e h;
      list = subst (Stays places w₀) (sym e) (stays_then places w₀ (traced_out n (Ok p) tx w li) (λ m. emit_n b (btf_of b s w) lent₁ why 512 0 m y) inv.list (λ m. places_emit b (btf_of b s w) lent₁ why 512 m y 0));
    }

    pub listing_end : n ≤ k → traced_out n (Ok p) tx w li ≡ obind (traced_out n (Ok p₀) tx₀ w₀ l₀) (λ m. eeach (emit_n b (btf_of b s w₀) lent why 512 0) (slices_store.list m.mach) m)
    listing_end h = rest_end b s lent why w₀ 512 0 (places w₀) n p₀ tx₀ l₀ n p tx w li k inv.rest h ∙ all_listed

  pub listing_halts : (c : Refusal) (tx w li : List ℕ) (k : ℕ) → Listing b s lent why w₀ n p₀ tx₀ l₀ (Err c) tx w li k → (r : Penned) → IsErrAnd r (λ e. e ≡ c)
      → traced_out n r tx w li ≡ obind (traced_out n (Ok p₀) tx₀ w₀ l₀) (λ m. eeach (emit_n b (btf_of b s w₀) lent why 512 0) (slices_store.list m.mach) m)
  listing_halts c tx w li k inv r e = rest_halts b s lent why w₀ 512 0 (places w₀) n p₀ tx₀ l₀ n c tx w li k inv.rest r e ∙ all_listed

-- ---- emit_entries
module _ (b : TypeTable) (s : List ℕ) (lent : Lent) (why : ℕ → Entry) (w₀ : List ℕ) (left cont : ℕ) (h : Held) (n : ℕ) (p₀ : Pen) (tx₀ l₀ : List ℕ) where
  abbrev Entered : Out (Traced Slices) (Unit {0}) → Type 0
  Entered x = x ≡ obind (traced_out n (Ok p₀) tx₀ w₀ l₀) (λ m. eeach (emit_n b (btf_of b s w₀) lent why left cont) (entry_ids b s h) m)

  pub entries_end : (p : Pen) (tx w li : List ℕ) (k : ℕ) → Rest b s lent why w₀ left cont (entry_type b s h) n p₀ tx₀ l₀ (count_of h) (Ok p) tx w li k → (c : ℕ) → c ≡ count_of h → c ≤ k → Entered (traced_out n (Ok p) tx w li)
  unfolding entry_ids
  entries_end p tx w li k inv c e g = rest_end b s lent why w₀ left cont (entry_type b s h) n p₀ tx₀ l₀ (count_of h) p tx w li k inv (omega (arith, e, g))

  pub entries_halt : (c : Refusal) (tx w li : List ℕ) (k : ℕ) → Rest b s lent why w₀ left cont (entry_type b s h) n p₀ tx₀ l₀ (count_of h) (Err c) tx w li k → (r : Penned) → IsErrAnd r (λ e. e ≡ c) → Entered (traced_out n r tx w li)
  unfolding entry_ids
  entries_halt c tx w li k inv r e = rest_halts b s lent why w₀ left cont (entry_type b s h) n p₀ tx₀ l₀ (count_of h) c tx w li k inv r e
