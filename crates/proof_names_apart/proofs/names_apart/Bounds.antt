-- A session's text has at most 2^30 bytes, and so at most as many names: numbers of 32 bits are always enough, if the table has fewer than some two
-- thousand million names. Assumes nothing.
use Prim.Native.Nat.{ℕ, ◌+◌, ◌≤◌, ◌<◌}
use mathlib.Core.Path.{◌≡◌, refl, sym, ◌∙◌, ap, subst}
use mathlib.Core.Bool.{Bool, true, false}
use mathlib.Core.List.{List, [], ◌∷◌}
use native.Mathlib.Omega.{arith}
use lib.ListN.{length, get_or, length-set, length-replicate}
use lib.Dec.{leb}
use borrow.Author.Tests.{leb-true}
use Rattle.spec_bytes.specs.text.Text.{whole, cut, bytes}
use Rattle.spec_c_dumper.specs.rules.Order.{new}
use Rattle.spec_c_dumper.specs.rules.Machine.{Sess, Req, run}
use Rattle.spec_c_dumper.specs.rules.Writer.{Said, said}
use Rattle.spec_c_dumper.specs.rules.Types.{Btf, table_of}
use Rattle.spec_c_dumper.specs.rules.Layout.{smaller}
use Rattle.spec_c_dumper.specs.rules.Emit.{definition, forward}
use Rattle.spec_c_dumper.specs.needs.Needs.{WF}
use Rattle.spec_c_dumper.specs.needs.Lists.{Piece, defines, other, cannot, Ls, put_line, afresh}
use Rattle.spec_c_dumper.specs.needs.Session.{Known, fitting, line_of, lines_by, machine_by, opened_by}
use Rattle.spec_c_dumper.proofs.needs.Lists.{Sized}
use Rattle.spec_c_dumper.proofs.needs.Session.{machine_lawful}
use Rattle.spec_c_dumper.proofs.needs.Alike.{AlikeMachine, BothOut, both_wrote, both_stuck, BothSess, serve_alike}
use Rattle.spec_c_dumper.specs.names_apart.Apart.{Apart, apart, none_shown, after_all, names_after, AllApart, Enough, Ends, FewNames}
use Rattle.proof_names_apart.proofs.names_apart.Lengths.{Spent, S, s_definition, s_forward}
use Rattle.proof_names_apart.proofs.names_apart.Session.{names_stay_apart}

small : (room n : ℕ) → n ≤ smaller room 1073741824 → n ≤ 1073741824
unfolding smaller
small room n h = go (leb room 1073741824) refl h
  where
    go : (b : Bool) → leb room 1073741824 ≡ b → n ≤ elim b as (λ (t : Bool). ℕ) [ true ↦ room | false ↦ 1073741824 ] → n ≤ 1073741824
    go true e q = omega (arith, q, leb-true room 1073741824 e)
    go false e q = q

-- as many bytes as names, and no more than 2^30
pub record Short (n : ℕ) (s : Ls (Known Apart)) : Type 0 where
  pub sized : Sized n s
  pub spent : length s.known.names.printed ≤ s.known.text_len
  pub limit : s.known.text_len ≤ 1073741824

abbrev Q : ℕ → Ls (Known Apart) → Ls (Known Apart) → Type 0
Q n s t = (s ≡ t) × Short n t

-- what a refused request held of the names is dropped
abbrev Untold : Apart → Apart → Type 0
Untold u v = Unit {0}

module _ (n : ℕ) (mk : List ℕ → Piece) (s : Ls (Known Apart)) (h : Short n s) where
  whole_short : (u : Apart) (a : List ℕ) → s.known.text_len + length a ≤ 1073741824 → length u.printed + 0 ≤ length s.known.names.printed + length a
      → BothOut (Q n) Untold (put_line mk s (fitting s.known.text_len u (whole a))) (put_line mk s (fitting s.known.text_len u (whole a)))
  unfolding fitting
  whole_short u a l q =
      let e : length u.printed ≤ s.known.text_len + length a = omega (arith, h.spent, q) in
      both_wrote _ _ (refl, record { sized = record { marks_n = h.sized.marks_n; emits_n = h.sized.emits_n }; spent = e; limit = l })

  cut_short : (u : Apart) (a : List ℕ) (c : ℕ) → BothOut (Q n) Untold (put_line mk s (fitting s.known.text_len u (cut a c))) (put_line mk s (fitting s.known.text_len u (cut a c)))
  unfolding fitting
  cut_short u a c = both_stuck u u tt c

  line_short : (room : ℕ) (x : Said Apart) → Spent 0 s.known.names x → BothOut (Q n) Untold (put_line mk s (line_of room s.known.text_len x)) (put_line mk s (line_of room s.known.text_len x))
  unfolding line_of bytes
  line_short room (said u (whole a) m) p = go _ (leb (s.known.text_len + length a) (smaller room 1073741824)) refl
    where
      go : (w : Apart) (b : Bool) → leb (s.known.text_len + length a) (smaller room 1073741824) ≡ b
          → BothOut (Q n) Untold (put_line mk s (elim b [ true ↦ fitting s.known.text_len u (whole a) | false ↦ cannot w 17 ])) (put_line mk s (elim b [ true ↦ fitting s.known.text_len u (whole a) | false ↦ cannot w 17 ]))
      go w true e = whole_short u a (small room (s.known.text_len + length a) (leb-true (s.known.text_len + length a) (smaller room 1073741824) e)) p
      go w false e = both_stuck w w tt 17
  line_short room (said u (cut a c) m) p = go _ (leb (s.known.text_len + length a) (smaller room 1073741824))
    where
      go : (w : Apart) (b : Bool) → BothOut (Q n) Untold (put_line mk s (elim b [ true ↦ fitting s.known.text_len u (cut a c) | false ↦ cannot w 17 ])) (put_line mk s (elim b [ true ↦ fitting s.known.text_len u (cut a c) | false ↦ cannot w 17 ]))
      go w true = cut_short u a c
      go w false = both_stuck w w tt 17

module _ (B : Btf) where
  abbrev n : ℕ
  n = B.type_cnt

  fwd_short : (s t : Ls (Known Apart)) → Q n s t → (x : ℕ) → x < n → BothOut (Q n) Untold ((machine_by (apart B) B).fwd_line s x) ((machine_by (apart B) B).fwd_line t x)
  fwd_short s t h x l =
      subst (λ (k : Ls (Known Apart)). BothOut (Q n) Untold ((machine_by (apart B) B).fwd_line k x) ((machine_by (apart B) B).fwd_line t x)) (sym h.0)
      (line_short n other t h.1 t.room (forward (apart B) B x (B.type_by_id x) t.known.names) ((s_forward B x (B.type_by_id x)).spends t.known.names))

  def_short : (mk : List ℕ → Piece) (s t : Ls (Known Apart)) → Q n s t → (x : ℕ)
      → BothOut (Q n) Untold (put_line mk s ((lines_by (apart B) B).body' s.room s.known x)) (put_line mk t ((lines_by (apart B) B).body' t.room t.known x))
  def_short mk s t h x =
      subst (λ (k : Ls (Known Apart)). BothOut (Q n) Untold (put_line mk k ((lines_by (apart B) B).body' k.room k.known x)) (put_line mk t ((lines_by (apart B) B).body' t.room t.known x))) (sym h.0)
      (line_short n mk t h.1 t.room (definition (apart B) B x (B.type_by_id x) t.known.names) ((s_definition B x (B.type_by_id x)).spends t.known.names))

  shorts : AlikeMachine (machine_by (apart B) B) (machine_by (apart B) B) n (Sized n) (Q n) Untold
  shorts = record {
    a_store = record {
      a_good = λ s t h. h.1.sized;
      a_get = λ s t h x l. ap (λ (k : Ls (Known Apart)). get_or k.marks x new) h.0;
      a_mark = λ m x s t h l. (
        ap (λ (k : Ls (Known Apart)). (machine_by (apart B) B).store.mark m x k) h.0,
        record { sized = record { marks_n = length-set t.marks x m ∙ h.1.sized.marks_n; emits_n = h.1.sized.emits_n }; spent = h.1.spent; limit = h.1.limit },
      );
      a_push = λ x s t h l r. (
        ap (λ (k : Ls (Known Apart)). (machine_by (apart B) B).store.push x k) h.0,
        record { sized = record { marks_n = h.1.sized.marks_n; emits_n = h.1.sized.emits_n }; spent = h.1.spent; limit = h.1.limit },
      );
    };
    a_list = λ s t h. ap (λ (k : Ls (Known Apart)). k.olist) h.0;
    a_start = λ r s t h. (
      ap (λ (k : Ls (Known Apart)). (machine_by (apart B) B).start r k) h.0,
      record { sized = record { marks_n = h.1.sized.marks_n; emits_n = h.1.sized.emits_n }; spent = h.1.spent; limit = h.1.limit },
    );
    a_eget = λ s t h x l. ap (λ (k : Ls (Known Apart)). get_or k.emits x new) h.0;
    a_emark = λ m x s t h l. (
      ap (λ (k : Ls (Known Apart)). (machine_by (apart B) B).emark m x k) h.0,
      record { sized = record { marks_n = h.1.sized.marks_n; emits_n = length-set t.emits x m ∙ h.1.sized.emits_n }; spent = h.1.spent; limit = h.1.limit },
    );
    a_has = λ s t h x l. ap (λ (k : Ls (Known Apart)). get_or k.fwds x false) h.0;
    a_forwarded = λ x s t h l. (
      ap (λ (k : Ls (Known Apart)). (machine_by (apart B) B).forwarded x k) h.0,
      record { sized = record { marks_n = h.1.sized.marks_n; emits_n = h.1.sized.emits_n }; spent = h.1.spent; limit = h.1.limit },
    );
    a_fwd = fwd_short;
    a_alias = fwd_short;
    a_leaf = λ s t h x l. def_short other s t h x;
    a_body = λ s t h x l. def_short (defines x) s t h x;
    a_held = λ s t h. tt;
    a_leaving = λ u w r s t h. h;
  }

  module _ (below : WF (table_of B)) where
    run_short : (rs : List Req) (S : Sess (Ls (Known Apart))) → BothSess (Q n) S S → BothSess (Q n) (run (machine_by (apart B) B) (table_of B) rs S) (run (machine_by (apart B) B) (table_of B) rs S)
    unfolding run
    run_short [] S h = h
    run_short (r ∷ rs) S h =
        run_short rs _ (serve_alike (machine_by (apart B) B) (machine_by (apart B) B) (table_of B) (Sized n) (machine_lawful (apart B) B n) below.below (Q n) Untold shorts S S h r)

    opened_short : BothSess (Q n) (opened_by (apart B) B (none_shown B)) (opened_by (apart B) B (none_shown B))
    unfolding afresh
    opened_short = record {
      same_open = refl;
      same_asked = refl;
      alike = (refl, record { sized = record { marks_n = length-replicate n new; emits_n = length-replicate n new }; spent = omega arith; limit = omega arith });
    }

    -- the names in a session's text are no more than its bytes
    pub session_short : (rs : List Req) → Short n (after_all B rs).mach
    session_short rs = (run_short rs (opened_by (apart B) B (none_shown B)) opened_short).alike.1

    -- numbers of 32 bits are enough, whatever is requested
    pub always_enough : FewNames B → (rs : List Req) → Enough B (names_after B rs)
    always_enough few rs space = let h : Short n (after_all B rs).mach = session_short rs in omega (arith, few space, h.spent, h.limit)

    -- "In one session no two types of a space, no two printed enumerators and no typedef and enumerator then share a spelling."
    pub session_apart : Ends B → FewNames B → (rs : List Req) → AllApart (names_after B rs).printed
    session_apart ends few rs = names_stay_apart B ends below rs (always_enough few rs)
