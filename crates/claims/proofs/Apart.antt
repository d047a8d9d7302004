-- Ask 8 holds of the calls on a session and of the calls for C, over the types that the section describes. Assumes nothing but that opening accepts the
-- section, and that the section is bytes.
use Prim.Native.Nat.{ℕ, zero, suc, ◌+◌, ◌-◌, ◌/◌, ◌%◌, ◌≤◌}
use mathlib.Core.Path.{◌≡◌, refl, ap, ap₂, ◌∙◌, sym, subst}
use mathlib.Core.Bool.{Bool, true, false, ◌||◌, ◌&&◌}
use mathlib.Core.List.{List, [], ◌∷◌, ◌++◌}
use native.Mathlib.Omega.{arith}
use lib.ListN.{length, take, get_or, set}
use lib.Dec.{eqb}
use Rattle.spec_bytes.specs.words.Words.{pick, one_more}
use Rattle.spec_linux_btf.specs.Reading.{Bytes}
use Rattle.spec_c_dumper.specs.rules.Types.{Name, Btf, table_of}
use Rattle.spec_c_dumper.specs.rules.Names.{Space, ident_space, Resolved, Naming, spelled, holders, with_one}
use Rattle.spec_c_dumper.specs.rules.Machine.{Req, one, all}
use Rattle.spec_c_dumper.specs.needs.Needs.{WF}
use Rattle.spec_c_dumper.specs.needs.Lists.{Lines}
use Rattle.spec_c_dumper.specs.needs.Session.{Known, opened_by}
use Rattle.spec_c_dumper.specs.names_apart.Apart.{of_type, of_value, Apart, is_name_among, taken, names_in as names_of, names_to, spellings_in, passing, number_for, shown, type_apart, value_apart, FewNames}
use Rattle.spec_opening.specs.Causes.{opening_number}
use Rattle.spec_opening.specs.Described.{table_in}
use Rattle.spec_session.specs.session.Answers.{number_of, value_of}
use Rattle.spec_session.specs.session.Turns.{Call}
use Rattle.spec_session.specs.calls.Calls.{type_call, types_call}
use Rattle.spec_session.specs.calls.Lists as calls
use Rattle.session_record.specs.record_words.Words.{decoded}
use Rattle.spec_session.proofs.calls.Claims.{number_is, value_is}
use Rattle.spec_c_calls.specs.Exports.{Export}
use Rattle.proof_demands.specs.demands.Table.{opened_table}
use Rattle.proof_demands.specs.demands.Session as old
use Rattle.proof_demands.specs.demands.Demands as before_that
use Rattle.proof_names_apart.specs.none_passed.Watched.{passes_over, Watched, type_watched, value_watched, watched, line_watched, lines_watched, NeverOver, none_watched, opened_watched, PassesNone}
use Rattle.proof_names_apart.specs.same_text.Claims as work
use Rattle.proof_names_apart.proofs.name_counts.Counts.{few_names}
use Rattle.proof_names_apart.proofs.names_apart.Session.{two_types, two_values, typedef_then_value, value_then_typedef}
use Rattle.proof_names_apart.proofs.names_apart.Bounds.{always_enough, session_apart}
use Rattle.proof_names_apart.proofs.same_text.Claims.{both_modes}
use Rattle.proof_calls.specs.calls_for_c.Claims as for-c
use Rattle.proof_calls.proofs.calls_for_c.Claims.{delivered_c}
use Rattle.proof_calls.proofs.described.Table.{C, table_is, definitions, forwards, described_wf}
use Rattle.claims.specs.Calls.{Calls, ids_in, singles, Lent, made, After}
use Rattle.claims.specs.Demands.{Stated}
use Rattle.claims.specs.Request08_names_apart.{NamesApart, SameAnswer, SameList, PrintAlike, OnlyNames, Request08}
use Rattle.claims.specs.Ours.{on_session, for_c}
use Rattle.claims.proofs.Names.{names_same, ends}
use Rattle.claims.proofs.Demands.{singles_same, made_same, session_after, session_sound, session_stated, c_after, c_sound, c_stated}

-- ---- no two share a spelling: of any calls

module _ {R K' : Type 0} (K : Calls R K') (p modes : ℕ) (s : List ℕ) (n : ℕ) (stated : Stated K p modes s n) (sound : (c : K') (rs : List Req) → After K p modes s n c rs → opening_number p s n ≡ 0) where
  abbrev D : Btf
  D = table_in p modes s

  all_apart : Bytes s → modes / 8 % 2 ≡ 1 → (c : K') (rs : List Req) → After K p modes s n c rs → NamesApart K p modes s n c rs
  all_apart y on c rs a =
      let ok = sound c rs a in
      let wf : WF (table_of D) = described_wf p modes s n y ok in
      let few : FewNames D = λ space. subst (λ (l : List Name). length l ≤ 2147483640) (names_same p modes s n y ok space) (few_names p modes s n ok space) in
      let enough = always_enough D wf few rs in
      let end = ends p modes s n y ok in
      record {
        text = (stated.names_apart y on c rs a).demand2.text;
        none_shared = λ b a q. record {
          types = two_types D end wf rs enough a b q;
          values = two_values D end wf rs enough a b q;
          typedef_first = typedef_then_value D end wf rs enough a b q;
          value_first = value_then_typedef D end wf rs enough a b q;
        };
        all_apart = session_apart D wf end few rs;
      }

-- ---- a number that is passed over: the same with the table that opening gives

module _ (p modes : ℕ) (s : List ℕ) (n : ℕ) (y : Bytes s) (ok : opening_number p s n ≡ 0) where
  abbrev B : Btf
  B = opened_table p modes s n

  abbrev E : Btf
  E = C p modes s n y ok

  to_same : (space : Space) (k : ℕ) → names_to B space k ≡ names_to E space k
  unfolding names_to
  to_same space zero = refl
  to_same space (suc k) = ap (λ (l : List Name). names_of space (B.type_by_id k) ++ l) (to_same space k)

  taken_same : (space : Space) (u : Apart) → taken B space u ≡ taken E space u
  taken_same space u = ap (λ (l : List Name). l ++ spellings_in space u.printed) (to_same space B.type_cnt)

  number_same : (space : Space) (name : Name) (u : Apart) → number_for B space name u ≡ number_for E space name u
  unfolding number_for
  number_same space name u =
      ap
      (λ (l : List Name). elim (eqb (holders u.names.ledger space name) 0) as (λ (b : Bool). ℕ) [
        | true ↦ 1
        | false ↦ passing (λ m. is_name_among (spelled name m) l) (length l) (one_more (holders u.names.ledger space name))
      ])
      (taken_same space u)

  type_same : (space : Space) (id : ℕ) (name : Name) (u : Apart) → type_apart B space id name u ≡ type_apart E space id name u
  unfolding type_apart
  type_same space id name u =
      ap {B = Resolved Apart}
      (λ (k : ℕ). elim (eqb (get_or u.names.versions id 0) 0) as (λ (b : Bool). Resolved Apart) [
        | false ↦ record {
          passes = false;
          version = get_or u.names.versions id 0;
          names = record { names = u.names; printed = shown space (of_type id) name (get_or u.names.versions id 0) u };
        }
        | true ↦ record {
          passes = false;
          version = k;
          names = record {
            names = record { versions = set u.names.versions id k; ledger = with_one u.names.ledger space name };
            printed = shown space (of_type id) name k u;
          };
        }
      ])
      (number_same space name u)

  value_same : (id i : ℕ) (name : Name) (u : Apart) → value_apart B id i name u ≡ value_apart E id i name u
  unfolding value_apart
  value_same id i name u =
      ap {B = Resolved Apart}
      (λ (k : ℕ). record {
        passes = false;
        version = k;
        names = record {
          names = record { versions = u.names.versions; ledger = with_one u.names.ledger ident_space name };
          printed = shown ident_space (of_value id i) name k u;
        };
      })
      (number_same ident_space name u)

  over_same : (space : Space) (name : Name) (u : Apart) → passes_over B space name u ≡ passes_over E space name u
  unfolding passes_over
  over_same space name u =
      ap
      (λ (l : List Name). elim (eqb (holders u.names.ledger space name) 0) as (λ (b : Bool). Bool) [
        | true ↦ false
        | false ↦ is_name_among (spelled name (one_more (holders u.names.ledger space name))) l
      ])
      (taken_same space u)

  watched_same : watched B ≡ watched E
  unfolding type_watched value_watched
  watched_same j = record {
    type_version = λ space id name w. record {
      passes = (type_same space id name w.names j).passes;
      version = (type_same space id name w.names j).version;
      names = record {
        names = (type_same space id name w.names j).names;
        over = (eqb (get_or w.names.names.versions id 0) 0 && over_same space name w.names j) || w.over;
      };
    };
    value_version = λ id i name w. record {
      passes = (value_same id i name w.names j).passes;
      version = (value_same id i name w.names j).version;
      names = record { names = (value_same id i name w.names j).names; over = over_same ident_space name w.names j || w.over };
    };
    leaving = λ held w. w;
  }

  lines_same : (N : Naming Watched) → lines_watched N B ≡ lines_watched N E
  lines_same N j = record {
    fwd = λ room k id. line_watched room k (forwards p modes s n y ok N id j k.names);
    alias' = λ room k id. line_watched room k (forwards p modes s n y ok N id j k.names);
    leaf' = λ room k id. line_watched room k (definitions p modes s n y ok N id j k.names);
    body' = λ room k id. line_watched room k (definitions p modes s n y ok N id j k.names);
    held' = λ k. k.names;
    leaving' = λ held k. record { names = N.leaving held k.names; text_len = k.text_len };
  }

  none_passed : (rs : List Req) → PassesNone (table_in p modes s) rs → PassesNone B rs
  none_passed rs h =
      subst (λ (L : Lines (Known Watched) Watched). NeverOver L (table_of B) rs (opened_watched B)) (sym (lines_same (watched B)))
      (subst (λ (N : Naming Watched). NeverOver (lines_watched N E) (table_of E) rs (opened_by N E (none_watched E))) (sym watched_same)
      (subst (λ (X : Btf). PassesNone X rs) (sym (table_is p modes s n y ok)) h))

-- ---- both modes: the calls on a session

module _ (p modes : ℕ) (s : List ℕ) (n : ℕ) where
  -- in the words of two crates
  only_names : (old : ℕ) → OnlyNames on_session p modes s n old → work.OnlyNames p modes old s n
  only_names o x = record { new_names = x.new_names; old_names = x.old_names; same_modes = x.same_modes }

  abbrev lent : (c : Call) (text : List ℕ) → Lent on_session c text → before_that.Lent c text
  lent c text l = record { long = l.long; begins = l.begins }

  session_alike : Bytes s → (old : ℕ) → OnlyNames on_session p modes s n old → (c d : Call) (rs : List Req) → After on_session p modes s n c rs → After on_session p old s n d rs → PrintAlike on_session p modes s n c d rs
  session_alike y o x c d rs a b =
      let ok = session_sound p modes s n c rs a in
      let q = both_modes p modes o s n (only_names o x) c d rs (session_after p modes s n a) (session_after p o s n b) in
      let to : (qs : List Req) → PassesNone (table_in p modes s) qs → PassesNone (opened_table p modes s n) qs = none_passed p modes s n y ok in
      record {
        so_far = λ h. record { text_len = q.text_len (to rs h); text = q.text (to rs h) };
        is_open = λ h. q.is_open (to rs h);
        next_one = λ t u l m e id h. answer (q.next_type t u (lent c t l) (lent d u m) e id (to (rs ++ (one (length t) id ∷ [])) h));
        next_all = λ t u l m e h. answer (q.next_types t u (lent c t l) (lent d u m) e (to (rs ++ (all (length t) ∷ [])) h));
        next_list = λ t u l m e ids h. list (q.next_list t u (lent c t l) (lent d u m) e (ids_in ids) (to (rs ++ old.singles_for (length t) (old.made 0 (on_session.request_list c s t ids)) (ids_in ids)) (asked c t ids h)));
      }
    where
      answer : {f g : Call} → work.SameAnswer f g → SameAnswer on_session p modes s n f g
      answer h = record { number = h.number; value = h.value; text = h.text }

      list : {f g : Call} → work.SameList f g → SameList on_session p modes s n f g
      list h = record { number = h.number; accepted = h.accepted; text = record { text_len = h.text_len; text = h.text } }

      asked : (c : Call) (t ids : List ℕ) → PassesNone (table_in p modes s) (rs ++ singles (length t) (made on_session (on_session.request_list c s t ids)) (ids_in ids))
          → PassesNone (table_in p modes s) (rs ++ old.singles_for (length t) (old.made 0 (on_session.request_list c s t ids)) (ids_in ids))
      asked c t ids h =
          let f : Call = on_session.request_list c s t ids in
          subst (λ (qs : List Req). PassesNone (table_in p modes s) (rs ++ qs)) (sym (ap (λ (k : ℕ). old.singles_for (length t) k (ids_in ids)) (made_same f) ∙ singles_same (length t) (made on_session f) (ids_in ids))) h

  pub session_apart_alike : Request08 on_session p modes s n
  session_apart_alike = record { apart = all_apart on_session p modes s n (session_stated p modes s n) (session_sound p modes s n); alike = session_alike }

-- ---- the calls for C

module _ (p modes : ℕ) (s : List ℕ) (n : ℕ) where
  abbrev lent_c : (e : Export) (text : List ℕ) → Lent for_c e text → for-c.LentC e text
  lent_c e text l = record { long = l.long; begins = l.begins }

  abbrev lent_told : (e : Export) (text : List ℕ) → Lent for_c e text → before_that.Lent (for-c.told e) text
  lent_told e text l = record { long = l.long; begins = l.begins }

  number_told : (e : Export) → number_of (for-c.told e).answer ≡ for_c.number e
  number_told e = number_is (for_c.number e) (for_c.value e)

  value_told : (e : Export) → value_of (for-c.told e).answer ≡ for_c.value e
  value_told e = value_is (for_c.number e) (for_c.value e)

  made_told : (e : Export) → old.made 0 (for-c.told e) ≡ made for_c e
  unfolding old.made made
  made_told e =
      let z : for_c.value e - 0 ≡ for_c.value e = omega arith in
      ap₂ (λ (v k : ℕ). v - 0 + pick (eqb k 0 || eqb k 11) 0 1) (value_told e) (number_told e)
      ∙ ap (λ (v : ℕ). v + pick (eqb (for_c.number e) 0 || eqb (for_c.number e) 11) 0 1) z

  answer_told : (e f : Export) → work.SameAnswer (for-c.told e) (for-c.told f) → SameAnswer for_c p modes s n e f
  answer_told e f h = record {
    number = sym (number_told e) ∙ h.number ∙ number_told f;
    value = sym (value_told e) ∙ h.value ∙ value_told f;
    text = ap (λ (k : ℕ). take k e.text) (sym (value_told e)) ∙ h.text ∙ ap (λ (k : ℕ). take k f.text) (value_told f);
  }

  list_told : (e f : Export) → work.SameList (for-c.told e) (for-c.told f) → SameList for_c p modes s n e f
  list_told e f h = record {
    number = sym (number_told e) ∙ h.number ∙ number_told f;
    accepted = sym (value_told e) ∙ h.accepted ∙ value_told f;
    text = record { text_len = h.text_len; text = h.text };
  }

  c_alike : Bytes s → (old : ℕ) → OnlyNames for_c p modes s n old → (c d : Export) (rs : List Req) → After for_c p modes s n c rs → After for_c p old s n d rs → PrintAlike for_c p modes s n c d rs
  unfolding calls.ids_in ids_in
  c_alike y o x c d rs a b =
      let ok = c_sound p modes s n c rs a in
      let ac = (delivered_c p modes s n).same_calls c rs (c_after p modes s n a) in
      let bd = (delivered_c p o s n).same_calls d rs (c_after p o s n b) in
      let q = both_modes p modes o s n (record { new_names = x.new_names; old_names = x.old_names; same_modes = x.same_modes }) (for-c.told c) (for-c.told d) rs ac.told_after bd.told_after in
      let to : (qs : List Req) → PassesNone (table_in p modes s) qs → PassesNone (opened_table p modes s n) qs = none_passed p modes s n y ok in
      record {
        so_far = λ h. record { text_len = q.text_len (to rs h); text = q.text (to rs h) };
        is_open = λ h. q.is_open (to rs h);
        next_one = λ t u l m e id h.
            let f : Call = type_call (decoded c.bytes) s c.work t id in
            answer_told (for_c.request c s t id) (for_c.request d s u id)
            (subst (λ (g : Call). work.SameAnswer g (for-c.told (for_c.request d s u id))) (sym (ac.next_one t (lent_c c t l) id))
            (subst (λ (g : Call). work.SameAnswer f g) (sym (bd.next_one u (lent_c d u m) id))
            (q.next_type t u (lent_told c t l) (lent_told d u m) e id (to (rs ++ (one (length t) id ∷ [])) h))));
        next_all = λ t u l m e h.
            let f : Call = types_call (decoded c.bytes) s c.work t in
            answer_told (for_c.request_all c s t) (for_c.request_all d s u)
            (subst (λ (g : Call). work.SameAnswer g (for-c.told (for_c.request_all d s u))) (sym (ac.next_all t (lent_c c t l)))
            (subst (λ (g : Call). work.SameAnswer f g) (sym (bd.next_all u (lent_c d u m)))
            (q.next_types t u (lent_told c t l) (lent_told d u m) e (to (rs ++ (all (length t) ∷ [])) h))));
        next_list = λ t u l m e ids h.
            let f : Call = calls.list_call (decoded c.bytes) s c.work t (ids_in ids) in
            list_told (for_c.request_list c s t ids) (for_c.request_list d s u ids)
            (subst (λ (g : Call). work.SameList g (for-c.told (for_c.request_list d s u ids))) (sym (ac.next_list t (lent_c c t l) ids))
            (subst (λ (g : Call). work.SameList f g) (sym (bd.next_list u (lent_c d u m) ids))
            (q.next_list t u (lent_told c t l) (lent_told d u m) e (ids_in ids)
            (to (rs ++ old.singles_for (length t) (old.made 0 f) (ids_in ids)) (asked t ids (ac.next_list t (lent_c c t l) ids) h)))));
      }
    where
      asked : (t ids : List ℕ) {f : Call} → for-c.told (for_c.request_list c s t ids) ≡ f → PassesNone (table_in p modes s) (rs ++ singles (length t) (made for_c (for_c.request_list c s t ids)) (ids_in ids))
          → PassesNone (table_in p modes s) (rs ++ old.singles_for (length t) (old.made 0 f) (ids_in ids))
      asked t ids is h =
          subst (λ (qs : List Req). PassesNone (table_in p modes s) (rs ++ qs))
          (sym (ap (λ (k : ℕ). old.singles_for (length t) k (ids_in ids)) (sym (ap (old.made 0) is) ∙ made_told (for_c.request_list c s t ids)) ∙ singles_same (length t) (made for_c (for_c.request_list c s t ids)) (ids_in ids))) h

  pub c_apart_alike : Request08 for_c p modes s n
  c_apart_alike = record { apart = all_apart for_c p modes s n (c_stated p modes s n) (c_sound p modes s n); alike = c_alike }
