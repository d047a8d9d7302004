-- The steps of ordering and emission that write no text, in the work and in the machine of lists: they keep the two alike. Assumes nothing.
use Prim.Native.Nat.{ℕ, zero, suc, ◌+◌, ◌*◌, ◌<◌}
use mathlib.Core.Path.{◌≡◌, refl, ap, ◌∙◌, sym, fun_ext}
use mathlib.Core.Bool.{true, false, not}
use mathlib.Core.List.{List, [], ◌∷◌, ◌++◌}
use mathlib.Core.Logic.{◌≢◌}
use native.Mathlib.Omega.{arith}
use native.Mathlib.Decide.{ℕ_discrete}
use lib.ListN.{length, get_or, set, length-set}
use lib.Seq.{get_or-set_same, get_or-set_other}
use lib.Dec.{eqb}
use Rattle.spec_bytes.specs.words.Words.{get_word, one_more}
use Rattle.spec_bytes.proofs.words.Laws.{get_put_same, get_put_other, put_length}
use Rattle.spec_c_dumper.specs.rules.Order.{Mark, new}
use Rattle.spec_c_dumper.specs.rules.Names.{Names}
use Rattle.spec_c_dumper.specs.rules.Types.{Btf as Rules}
use Rattle.spec_type_table.specs.declared.types.TypeTable.{TypeTable}
use Rattle.spec_type_table.specs.Cells.{get_field, put_field, class_p, count_p, place_of}
use Rattle.spec_type_table.specs.Numbers.{head_p, next_p, taken_p}
use Rattle.spec_type_table.specs.Table.{from, btf_of}
use Rattle.spec_type_table.proofs.Laws.{place_type}
use Rattle.spec_type_table.proofs.Frame.{field_other, table_field}
use Rattle.btf_open_names.specs.name_classes.Classes.{record_p, key_in, class_of}
use Rattle.btf_open_names.proofs.name_classes.Keys.{place_apart}
use Rattle.c_dumper_dependency_order.specs.order_state.Work.{mark_of, code, work_store}
use Rattle.c_dumper_dependency_order.proofs.order_state.Lawful.{work_lawful, mark_code}
use Rattle.spec_c_dumper.specs.needs.Lists.{Ls, list_store}
use Rattle.spec_c_dumper.specs.needs.Session.{Known, machine}
use Rattle.proof_demands.specs.name_counts.Indexed.{Indexed, CountsKept}
use Rattle.proof_demands.specs.name_counts.Alike.{Alike}
use Rattle.proof_demands.proofs.alignment_memory.Work.{memory_put}
use Rattle.proof_demands.proofs.alignment_memory.Lines.{memory_kept}
use Rattle.proof_demands.specs.demands.Representation.{Bears}

module _ (b : TypeTable) (e : ℕ) (s w : List ℕ) (I : Indexed b e s w) where
  -- a word of a type that names do not use
  module _ (f : ℕ) (lf : f < 16) (f0 : f ≢ 0) (f4 : f ≢ 4) (f5 : f ≢ 5) (f6 : f ≢ 6) (f7 : f ≢ 7) (f8 : f ≢ 8) (f12 : f ≢ 12) (f14 : f ≢ 14) (v : List ℕ) (u : Names) (x c : ℕ) (l : x < b.types) (a : Alike b e s w v u) where
    elsewhere : (i : ℕ) → place_of b.types f 7 x ≢ i → get_word (put_field v x f c) i ≡ get_word v i
    elsewhere i m = get_put_other v (x * 16 + f) i c (λ q. m (sym (place_type b.types f 7 x l) ∙ sym q))

    put_kept : CountsKept b e s w (put_field v x f c)
    put_kept = record {
      long = put_length v (x * 16 + f) c ∙ a.kept.long;
      class = λ h m. elsewhere (class_p b.types h) (place_apart b.types f 7 5 1 (lf, omega arith, omega arith, omega arith, f5, λ q. omega arith) x h) ∙ a.kept.class h m;
      place = λ h m. elsewhere (record_p b.types h) (place_apart b.types f 7 0 0 (lf, omega arith, omega arith, omega arith, f0, λ q. omega arith) x h) ∙ a.kept.place h m;
      first = λ id m. field_other v x f c id 12 lf (omega arith) f12 ∙ a.kept.first id m;
      heads = λ h. elsewhere (head_p b.types h) (place_apart b.types f 7 7 3 (lf, omega arith, omega arith, omega arith, f7, λ q. omega arith) x h) ∙ a.kept.heads h;
      nexts = λ h. elsewhere (next_p b.types h) (place_apart b.types f 7 8 4 (lf, omega arith, omega arith, omega arith, f8, λ q. omega arith) x h) ∙ a.kept.nexts h;
      takens = λ h. elsewhere (taken_p b.types h) (place_apart b.types f 7 14 6 (lf, omega arith, omega arith, omega arith, f14, λ q. omega arith) x h) ∙ a.kept.takens h;
    }

    pub put_alike : Alike b e s w (put_field v x f c) u
    put_alike = record {
      kept = put_kept;
      sized = a.sized;
      its_version = λ id m. field_other v x f c id 4 lf (omega arith) f4 ∙ a.its_version id m;
      its_count = λ h space name q.
          elsewhere (count_p b.types (class_of (key_in b s w) h)) (place_apart b.types f 7 6 2 (lf, omega arith, omega arith, omega arith, f6, λ z. omega arith) x (class_of (key_in b s w) h))
          ∙ a.its_count h space name q;
    }

    put_here : get_field (put_field v x f c) x f ≡ c
    put_here = get_put_same v (x * 16 + f) c (omega (arith, I.room.words, a.kept.long, l, lf))

    put_there : (y : ℕ) → y ≢ x → get_field (put_field v x f c) y f ≡ get_field v y f
    put_there y n = get_put_other v (x * 16 + f) (y * 16 + f) c (λ q. n (omega arith))

    -- word f of all types, and a list, seen through `g`
    put_seen : {A : Type 0} (g : ℕ → A) (r : List A) (z d : A) → g c ≡ z → length r ≡ b.types → ((y : ℕ) → y < b.types → g (get_field v y f) ≡ get_or r y d)
        → (y : ℕ) → y < b.types → g (get_field (put_field v x f c) y f) ≡ get_or (set r x z) y d
    put_seen g r z d q n h y m = go (ℕ_discrete y x)
      where
        go : Dec (y ≡ x) → g (get_field (put_field v x f c) y f) ≡ get_or (set r x z) y d
        go (yes k) = ap (λ (j : ℕ). g (get_field (put_field v x f c) j f)) k ∙ ap g put_here ∙ q ∙ sym (get_or-set_same r x z d (omega (arith, n, l))) ∙ ap (λ (j : ℕ). get_or (set r x z) j d) (sym k)
        go (no k) = ap g (put_there y k) ∙ h y m ∙ sym (get_or-set_other r x y z d k)

    -- the table, which reads words 0, 9 and 10 of a type only
    put_table : f ≢ 9 → f ≢ 10 → btf_of b s (put_field v x f c) ≡ btf_of b s v
    put_table f9 f10 = table_field v x f c lf b s f0 f9 f10

    -- word 11, if f is another
    put_list : f ≢ 11 → (n : ℕ) → from (λ k. get_field (put_field v x f c) k 11) 0 n ≡ from (λ k. get_field v k 11) 0 n
    put_list n11 n = ap (λ (g : ℕ → ℕ). from g 0 n) (fun_ext (λ k. field_other v x f c k 11 lf (omega arith) n11))

  -- ---- the steps
  module _ (v : List ℕ) (len : ℕ) (t : Ls (Known Names)) (h : Bears b e s w v len t) (x : ℕ) (l : x < b.types) where
    abbrev u : Names
    u = t.known.names

    -- ordering's mark
    pub mark_step : (k : Mark) → Bears b e s w (put_field v x 1 (code k)) len (list_store.mark k x t)
    mark_step k = record {
      table = put_table 1 (omega arith) (λ q. omega arith) (λ q. omega arith) (λ q. omega arith) (λ q. omega arith) (λ q. omega arith) (λ q. omega arith) (λ q. omega arith) (λ q. omega arith) v u x (code k) l h.names (λ q. omega arith) (λ q. omega arith) ∙ h.table;
      names = put_alike 1 (omega arith) (λ q. omega arith) (λ q. omega arith) (λ q. omega arith) (λ q. omega arith) (λ q. omega arith) (λ q. omega arith) (λ q. omega arith) (λ q. omega arith) v u x (code k) l h.names;
      marks = put_seen 1 (omega arith) (λ q. omega arith) (λ q. omega arith) (λ q. omega arith) (λ q. omega arith) (λ q. omega arith) (λ q. omega arith) (λ q. omega arith) (λ q. omega arith) v u x (code k) l h.names mark_of t.marks k new (mark_code k) h.marks_n h.marks;
      list = put_list 1 (omega arith) (λ q. omega arith) (λ q. omega arith) (λ q. omega arith) (λ q. omega arith) (λ q. omega arith) (λ q. omega arith) (λ q. omega arith) (λ q. omega arith) v u x (code k) l h.names (λ q. omega arith) len ∙ h.list;
      emits = λ y m. ap mark_of (field_other v x 1 (code k) y 13 (omega arith) (omega arith) (λ q. omega arith)) ∙ h.emits y m;
      fwds = λ y m. ap (λ (z : ℕ). not (eqb z 0)) (field_other v x 1 (code k) y 3 (omega arith) (omega arith) (λ q. omega arith)) ∙ h.fwds y m;
      marks_n = length-set t.marks x k ∙ h.marks_n;
      emits_n = h.emits_n;
      fwds_n = h.fwds_n;
      memory = memory_kept (btf_of b s w) v (put_field v x 1 (code k)) (memory_put v (x * 16 + 1) (code k) (λ q. omega arith) (λ q. omega arith)) h.memory;
    }

    -- emission's mark
    pub emark_step : (B : Rules) (k : Mark) → Bears b e s w (put_field v x 13 (code k)) len ((machine B).emark k x t)
    emark_step B k = record {
      table = put_table 13 (omega arith) (λ q. omega arith) (λ q. omega arith) (λ q. omega arith) (λ q. omega arith) (λ q. omega arith) (λ q. omega arith) (λ q. omega arith) (λ q. omega arith) v u x (code k) l h.names (λ q. omega arith) (λ q. omega arith) ∙ h.table;
      names = put_alike 13 (omega arith) (λ q. omega arith) (λ q. omega arith) (λ q. omega arith) (λ q. omega arith) (λ q. omega arith) (λ q. omega arith) (λ q. omega arith) (λ q. omega arith) v u x (code k) l h.names;
      marks = λ y m. ap mark_of (field_other v x 13 (code k) y 1 (omega arith) (omega arith) (λ q. omega arith)) ∙ h.marks y m;
      list = put_list 13 (omega arith) (λ q. omega arith) (λ q. omega arith) (λ q. omega arith) (λ q. omega arith) (λ q. omega arith) (λ q. omega arith) (λ q. omega arith) (λ q. omega arith) v u x (code k) l h.names (λ q. omega arith) len ∙ h.list;
      emits = put_seen 13 (omega arith) (λ q. omega arith) (λ q. omega arith) (λ q. omega arith) (λ q. omega arith) (λ q. omega arith) (λ q. omega arith) (λ q. omega arith) (λ q. omega arith) v u x (code k) l h.names mark_of t.emits k new (mark_code k) h.emits_n h.emits;
      fwds = λ y m. ap (λ (z : ℕ). not (eqb z 0)) (field_other v x 13 (code k) y 3 (omega arith) (omega arith) (λ q. omega arith)) ∙ h.fwds y m;
      marks_n = h.marks_n;
      emits_n = length-set t.emits x k ∙ h.emits_n;
      fwds_n = h.fwds_n;
      memory = memory_kept (btf_of b s w) v (put_field v x 13 (code k)) (memory_put v (x * 16 + 13) (code k) (λ q. omega arith) (λ q. omega arith)) h.memory;
    }

    -- the flag of a forward line
    pub forwarded_step : (B : Rules) → Bears b e s w (put_field v x 3 1) len ((machine B).forwarded x t)
    forwarded_step B = record {
      table = put_table 3 (omega arith) (λ q. omega arith) (λ q. omega arith) (λ q. omega arith) (λ q. omega arith) (λ q. omega arith) (λ q. omega arith) (λ q. omega arith) (λ q. omega arith) v u x 1 l h.names (λ q. omega arith) (λ q. omega arith) ∙ h.table;
      names = put_alike 3 (omega arith) (λ q. omega arith) (λ q. omega arith) (λ q. omega arith) (λ q. omega arith) (λ q. omega arith) (λ q. omega arith) (λ q. omega arith) (λ q. omega arith) v u x 1 l h.names;
      marks = λ y m. ap mark_of (field_other v x 3 1 y 1 (omega arith) (omega arith) (λ q. omega arith)) ∙ h.marks y m;
      list = put_list 3 (omega arith) (λ q. omega arith) (λ q. omega arith) (λ q. omega arith) (λ q. omega arith) (λ q. omega arith) (λ q. omega arith) (λ q. omega arith) (λ q. omega arith) v u x 1 l h.names (λ q. omega arith) len ∙ h.list;
      emits = λ y m. ap mark_of (field_other v x 3 1 y 13 (omega arith) (omega arith) (λ q. omega arith)) ∙ h.emits y m;
      fwds = put_seen 3 (omega arith) (λ q. omega arith) (λ q. omega arith) (λ q. omega arith) (λ q. omega arith) (λ q. omega arith) (λ q. omega arith) (λ q. omega arith) (λ q. omega arith) v u x 1 l h.names (λ (z : ℕ). not (eqb z 0)) t.fwds true false refl h.fwds_n h.fwds;
      marks_n = h.marks_n;
      emits_n = h.emits_n;
      fwds_n = length-set t.fwds x true ∙ h.fwds_n;
      memory = memory_kept (btf_of b s w) v (put_field v x 3 1) (memory_put v (x * 16 + 3) 1 (λ q. omega arith) (λ q. omega arith)) h.memory;
    }

    -- one more on the order list
    from_length : (f : ℕ → ℕ) (k n : ℕ) → length (from f k n) ≡ n
    unfolding from
    from_length f k zero = refl
    from_length f k (suc n) = ap suc (from_length f (k + 1) n)

    pub listed_few : length t.olist < b.types → len < b.types
    listed_few r = omega (arith, r, sym (ap length h.list) ∙ from_length (λ k. get_field v k 11) 0 len)

    list_grows : length t.olist < b.types → from (λ k. get_field (put_field v len 11 x) k 11) 0 (one_more len) ≡ t.olist ++ (x ∷ [])
    unfolding work_store
    list_grows r =
        (work_lawful b.types (omega (arith, I.room.numbered))).push_list x (record { work = v; len = len }) (omega (arith, I.room.words, h.names.kept.long)) l (omega (arith, r, ap length h.list))
        ∙ ap (λ (k : List ℕ). k ++ (x ∷ [])) h.list

    pub push_step : length t.olist < b.types → Bears b e s w (put_field v len 11 x) (one_more len) (list_store.push x t)
    push_step r = record {
      table = put_table 11 (omega arith) (λ q. omega arith) (λ q. omega arith) (λ q. omega arith) (λ q. omega arith) (λ q. omega arith) (λ q. omega arith) (λ q. omega arith) (λ q. omega arith) v u len x (listed_few r) h.names (λ q. omega arith) (λ q. omega arith) ∙ h.table;
      names = put_alike 11 (omega arith) (λ q. omega arith) (λ q. omega arith) (λ q. omega arith) (λ q. omega arith) (λ q. omega arith) (λ q. omega arith) (λ q. omega arith) (λ q. omega arith) v u len x (listed_few r) h.names;
      marks = λ y m. ap mark_of (field_other v len 11 x y 1 (omega arith) (omega arith) (λ q. omega arith)) ∙ h.marks y m;
      list = list_grows r;
      emits = λ y m. ap mark_of (field_other v len 11 x y 13 (omega arith) (omega arith) (λ q. omega arith)) ∙ h.emits y m;
      fwds = λ y m. ap (λ (z : ℕ). not (eqb z 0)) (field_other v len 11 x y 3 (omega arith) (omega arith) (λ q. omega arith)) ∙ h.fwds y m;
      marks_n = h.marks_n;
      emits_n = h.emits_n;
      fwds_n = h.fwds_n;
      memory = memory_kept (btf_of b s w) v (put_field v len 11 x) (memory_put v (len * 16 + 11) x (λ q. omega arith) (λ q. omega arith)) h.memory;
    }
