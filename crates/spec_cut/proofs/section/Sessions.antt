-- The machine of lists with the names of the Rust goes alike over two tables whose ids stand for each other. Assumes nothing.
use Prim.Native.Nat.{ℕ, ◌+◌, ◌<◌}
use native.Mathlib.Decide.{ℕ_discrete}
use mathlib.Core.Path.{◌≡◌, refl, sym, ◌∙◌, ap, ap₂, subst}
use mathlib.Core.Bool.{Bool, true, false}
use mathlib.Core.List.{List, [], ◌∷◌, ◌++◌}
use lib.ListN.{length, get_or, set, replicate, length-replicate}
use lib.Seq.{get_or-set_same, get_or-set_other, lt-length-set}
use lib.Dec.{leb, eqb}
use Rattle.spec_bytes.specs.words.Words.{one_more}
use Rattle.spec_bytes.specs.text.Text.{Text, whole, cut, bytes}
use Rattle.spec_bytes.proofs.words.Laws.{get_replicate}
use Rattle.spec_c_dumper.specs.rules.Types.{Name, BtfType, Btf, table_of}
use Rattle.spec_c_dumper.specs.rules.Order.{new}
use Rattle.spec_c_dumper.specs.rules.Machine.{Sess, Req, single}
use Rattle.spec_c_dumper.specs.rules.Layout.{smaller}
use Rattle.spec_c_dumper.specs.rules.Names.{Space, ident_space, Resolved, Names, Holder, holders, with_one, type_version, value_version, naming}
use Rattle.spec_c_dumper.specs.rules.Writer.{Said}
use Rattle.spec_c_dumper.specs.rules.Emit.{definition, forward}
use Rattle.spec_c_dumper.proofs.rules.Related.{RelSaid, same, RelResolved}
use Rattle.spec_c_dumper.specs.needs.Lists.{Piece, defines, other, Line, says, cannot, Ls, put_line, afresh}
use Rattle.spec_c_dumper.specs.needs.Session.{text_of, dump, Known, fitting, line_of, machine, opened, answer_to, dumped, dump_types}
use Rattle.spec_cut.specs.section.Stands.{with_types, Each, none, Stands, Renumbered, no_requests, request}
use Rattle.spec_cut.proofs.section.Lines.{SameNaming, definition_same, forward_same}
use Rattle.spec_cut.proofs.section.Steps.{BothOut, both_wrote, both_stuck, SameSteps, BothSess, BothAnswer, each_append, single_same}

-- ---- lists indexed by ids

-- entries of ids that stand for each other are equal, and inside
pub record SameList {A : Type 0} (d : A) (I : ℕ → ℕ → Type 0) (l l' : List A) : Type 0 where
  pub at : (x x' : ℕ) → I x x' → get_or l x d ≡ get_or l' x' d
  pub long : (x x' : ℕ) → I x x' → x < length l
  pub long' : (x x' : ℕ) → I x x' → x' < length l'

-- pieces that have the same text, and define what stands for each other
pub data SamePieces (I : ℕ → ℕ → Type 0) : List Piece → List Piece → Type 0 where
  no_pieces : SamePieces I [] []
  both_other : (t : List ℕ) {ps ps' : List Piece} → SamePieces I ps ps' → SamePieces I (other t ∷ ps) (other t ∷ ps')
  both_define : (x x' : ℕ) → I x x' → (t : List ℕ) {ps ps' : List Piece} → SamePieces I ps ps' → SamePieces I (defines x t ∷ ps) (defines x' t ∷ ps')

pub pieces_text : {I : ℕ → ℕ → Type 0} {ps ps' : List Piece} → SamePieces I ps ps' → text_of ps ≡ text_of ps'
unfolding text_of
pieces_text no_pieces = refl
pieces_text (both_other t r) = ap (λ (l : List ℕ). t ++ l) (pieces_text r)
pieces_text (both_define x x' i t r) = ap (λ (l : List ℕ). t ++ l) (pieces_text r)

pieces_more : {I : ℕ → ℕ → Type 0} {ps ps' qs qs' : List Piece} → SamePieces I ps ps' → SamePieces I qs qs' → SamePieces I (ps ++ qs) (ps' ++ qs')
pieces_more no_pieces q = q
pieces_more (both_other t r) q = both_other t (pieces_more r q)
pieces_more (both_define x x' i t r) q = both_define x x' i t (pieces_more r q)

module _ (B : Btf) (n : ℕ) (types : ℕ → BtfType) (tags : ℕ → List ℕ) (I : ℕ → ℕ → Type 0) (st : Stands B n types tags I) where
  abbrev B' : Btf
  B' = with_types B n types tags

  -- the same value set at ids that stand for each other
  set_same : {A : Type 0} (d : A) (l l' : List A) → SameList d I l l' → (x x' : ℕ) → I x x' → (a : A) → SameList d I (set l x a) (set l' x' a)
  set_same d l l' h x x' i a = record {
    at = λ y y' j. go y y' j (ℕ_discrete y x);
    long = λ y y' j. lt-length-set l x a (h.long y y' j);
    long' = λ y y' j. lt-length-set l' x' a (h.long' y y' j);
  }
    where
      go : (y y' : ℕ) → I y y' → Dec (y ≡ x) → get_or (set l x a) y d ≡ get_or (set l' x' a) y' d
      go y y' j (yes e) =
          ap (λ (k : ℕ). get_or (set l x a) k d) e ∙ get_or-set_same l x a d (h.long x x' i) ∙ sym (get_or-set_same l' x' a d (h.long' x x' i))
          ∙ ap (λ (k : ℕ). get_or (set l' x' a) k d) (st.one_number x x' y y' i j (sym e))
      go y y' j (no e) = get_or-set_other l x y a d e ∙ h.at y y' j ∙ sym (get_or-set_other l' x' y' a d (λ w. e (st.one_id y y' x x' j i w)))

  fresh_list : {A : Type 0} (d : A) → SameList d I (replicate B.type_cnt d) (replicate n d)
  fresh_list d = record {
    at = λ x x' i. get_replicate d B.type_cnt x ∙ sym (get_replicate d n x');
    long = λ x x' i. subst (λ (k : ℕ). x < k) (sym (length-replicate B.type_cnt d)) (st.inside x x' i).0;
    long' = λ x x' i. subst (λ (k : ℕ). x' < k) (sym (length-replicate n d)) (st.inside x x' i).1;
  }

  -- ---- names

  -- the same versions for ids that stand for each other, the same holders of every name
  pub record SameNames (u v : Names) : Type 0 where
    pub versions_same : SameList 0 I u.versions v.versions
    pub ledger_same : u.ledger ≡ v.ledger

  type_version_same : (space : Space) (id id' : ℕ) (name : Name) → I id id' → (u v : Names) → SameNames u v → RelResolved SameNames (type_version space id name u) (type_version space id' name v)
  unfolding type_version
  type_version_same space id id' name i u v h =
      subst
      (λ (k : ℕ). RelResolved SameNames (by u id (get_or u.versions id 0)) (by v id' k))
      (h.versions_same.at id id' i) (go (get_or u.versions id 0))
    where
      by : Names → ℕ → ℕ → Resolved Names
      by w y k =
          elim (eqb k 0) [
            | false ↦ record { passes = false; version = k; names = w }
            | true ↦ record {
              passes = false;
              version = one_more (holders w.ledger space name);
              names = record { versions = set w.versions y (one_more (holders w.ledger space name)); ledger = with_one w.ledger space name };
            }
          ]

      same_new : (one_more (holders u.ledger space name)) ≡ (one_more (holders v.ledger space name))
      same_new = ap (λ (l : List Holder). one_more (holders l space name)) h.ledger_same

      go : (k : ℕ) → RelResolved SameNames (by u id k) (by v id' k)
      go k = pick (eqb k 0)
        where
          pick : (b : Bool) → RelResolved SameNames
              (elim b [ false ↦ record { passes = false; version = k; names = u } | true ↦ record { passes = false; version = one_more (holders u.ledger space name); names = record { versions = set u.versions id (one_more (holders u.ledger space name)); ledger = with_one u.ledger space name } } ])
              (elim b [ false ↦ record { passes = false; version = k; names = v } | true ↦ record { passes = false; version = one_more (holders v.ledger space name); names = record { versions = set v.versions id' (one_more (holders v.ledger space name)); ledger = with_one v.ledger space name } } ])
          pick false = (refl, refl, h)
          pick true = (
            refl,
            same_new,
            record {
              versions_same =
                  subst (λ (m : ℕ). SameList 0 I (set u.versions id (one_more (holders u.ledger space name))) (set v.versions id' m)) same_new
                  (set_same 0 u.versions v.versions h.versions_same id id' i (one_more (holders u.ledger space name)));
              ledger_same = ap (λ (l : List Holder). with_one l space name) h.ledger_same;
            },
          )

  value_version_same : (name : Name) (u v : Names) → SameNames u v → RelResolved SameNames (value_version name u) (value_version name v)
  unfolding value_version
  value_version_same name u v h = (
    refl,
    ap (λ (l : List Holder). one_more (holders l ident_space name)) h.ledger_same,
    record {
      versions_same = h.versions_same;
      ledger_same = ap (λ (l : List Holder). with_one l ident_space name) h.ledger_same;
    },
  )

  naming_same : SameNaming SameNames I naming naming
  naming_same = record { s_type = type_version_same; s_value = λ id id' k name i u v h. value_version_same name u v h }

  -- ---- the machine

  pub record SameKnown (k k' : Known Names) : Type 0 where
    pub names_same : SameNames k.names k'.names
    pub len_same : k.text_len ≡ k'.text_len

  pub record SameState (s s' : Ls (Known Names)) : Type 0 where
    pub marks_same : SameList new I s.marks s'.marks
    pub olist_same : Each I s.olist s'.olist
    pub emits_same : SameList new I s.emits s'.emits
    pub fwds_same : SameList false I s.fwds s'.fwds
    pub room_same : s.room ≡ s'.room
    pub known_same : SameKnown s.known s'.known
    pub pieces_same : SamePieces I s.pieces s'.pieces

  data SameLine : Line (Known Names) Names → Line (Known Names) Names → Type 0 where
    l_says : (k k' : Known Names) (t : List ℕ) → SameKnown k k' → SameLine (says k t) (says k' t)
    l_cannot : {u v : Names} (e : ℕ) → SameLine (cannot u e) (cannot v e)

  fitting_same : (len : ℕ) (u v : Names) → SameNames u v → (t : Text) → SameLine (fitting len u t) (fitting len v t)
  unfolding fitting
  fitting_same len u v h (whole a) = l_says _ _ a (record { names_same = h; len_same = refl })
  fitting_same len u v h (cut a c) = l_cannot c

  line_of_same : (room len : ℕ) {s s' : Said Names} → RelSaid SameNames s s' → SameLine (line_of room len s) (line_of room len s')
  unfolding line_of
  line_of_same room len (same u v t k m h p) = go _ _ (leb (len + length (bytes t)) (smaller room 1073741824))
    where
      go : (u' v' : Names) (b : Bool) → SameLine (elim b [ true ↦ fitting len u t | false ↦ cannot u' 17 ]) (elim b [ true ↦ fitting len v t | false ↦ cannot v' 17 ])
      go u' v' true = fitting_same len u v h t
      go u' v' false = l_cannot 17

  line_same : (room room' : ℕ) → room ≡ room' → (k k' : Known Names) → SameKnown k k' → (w w' : Names → Said Names) → ((u v : Names) → SameNames u v → RelSaid SameNames (w u) (w' v))
      → SameLine (line_of room k.text_len (w k.names)) (line_of room' k'.text_len (w' k'.names))
  line_same room room' e k k' h w w' f =
      subst (λ (r : ℕ). SameLine (line_of room k.text_len (w k.names)) (line_of r k'.text_len (w' k'.names))) e
      (subst (λ (m : ℕ). SameLine (line_of room k.text_len (w k.names)) (line_of room m (w' k'.names))) h.len_same
      (line_of_same room k.text_len (f k.names k'.names h.names_same)))

  put_same : (mk mk' : List ℕ → Piece) → ((t : List ℕ) → SamePieces I (mk t ∷ []) (mk' t ∷ [])) → (s s' : Ls (Known Names)) → SameState s s'
      → {l l' : Line (Known Names) Names} → SameLine l l' → BothOut SameState (put_line mk s l) (put_line mk' s' l')
  put_same mk mk' hm s s' h (l_says k k' t r) = both_wrote _ _ (record {
    marks_same = h.marks_same;
    olist_same = h.olist_same;
    emits_same = h.emits_same;
    fwds_same = h.fwds_same;
    room_same = h.room_same;
    known_same = r;
    pieces_same = pieces_more h.pieces_same (hm t);
  })
  put_same mk mk' hm s s' h (l_cannot e) = both_stuck e

  forward_line : (s s' : Ls (Known Names)) → SameState s s' → (x x' : ℕ) → I x x'
      → SameLine (line_of s.room s.known.text_len (forward naming B x (B.type_by_id x) s.known.names)) (line_of s'.room s'.known.text_len (forward naming B' x' (types x') s'.known.names))
  forward_line s s' h x x' i =
      line_same s.room s'.room h.room_same s.known s'.known h.known_same (forward naming B x (B.type_by_id x)) (forward naming B' x' (types x'))
      (forward_same B n types tags I st SameNames naming naming naming_same x x' i)

  definition_line : (s s' : Ls (Known Names)) → SameState s s' → (x x' : ℕ) → I x x'
      → SameLine (line_of s.room s.known.text_len (definition naming B x (B.type_by_id x) s.known.names)) (line_of s'.room s'.known.text_len (definition naming B' x' (types x') s'.known.names))
  definition_line s s' h x x' i =
      line_same s.room s'.room h.room_same s.known s'.known h.known_same (definition naming B x (B.type_by_id x)) (definition naming B' x' (types x'))
      (definition_same B n types tags I st SameNames naming naming naming_same x x' i)

  plainly : (t : List ℕ) → SamePieces I (other t ∷ []) (other t ∷ [])
  plainly t = both_other t no_pieces

  pub machine_same : SameSteps (machine B) (machine B') I SameState
  machine_same = record {
    s_get = λ s s' h x x' i. h.marks_same.at x x' i;
    s_mark = λ m x x' s s' h i. record {
      marks_same = set_same new s.marks s'.marks h.marks_same x x' i m;
      olist_same = h.olist_same;
      emits_same = h.emits_same;
      fwds_same = h.fwds_same;
      room_same = h.room_same;
      known_same = h.known_same;
      pieces_same = h.pieces_same;
    };
    s_push = λ x x' s s' h i. record {
      marks_same = h.marks_same;
      olist_same = each_append h.olist_same x x' i;
      emits_same = h.emits_same;
      fwds_same = h.fwds_same;
      room_same = h.room_same;
      known_same = h.known_same;
      pieces_same = h.pieces_same;
    };
    s_list = λ s s' h. h.olist_same;
    s_start = λ room s s' h. record {
      marks_same = h.marks_same;
      olist_same = none;
      emits_same = h.emits_same;
      fwds_same = h.fwds_same;
      room_same = refl;
      known_same = h.known_same;
      pieces_same = h.pieces_same;
    };
    s_eget = λ s s' h x x' i. h.emits_same.at x x' i;
    s_emark = λ m x x' s s' h i. record {
      marks_same = h.marks_same;
      olist_same = h.olist_same;
      emits_same = set_same new s.emits s'.emits h.emits_same x x' i m;
      fwds_same = h.fwds_same;
      room_same = h.room_same;
      known_same = h.known_same;
      pieces_same = h.pieces_same;
    };
    s_has = λ s s' h x x' i. h.fwds_same.at x x' i;
    s_forwarded = λ x x' s s' h i. record {
      marks_same = h.marks_same;
      olist_same = h.olist_same;
      emits_same = h.emits_same;
      fwds_same = set_same false s.fwds s'.fwds h.fwds_same x x' i true;
      room_same = h.room_same;
      known_same = h.known_same;
      pieces_same = h.pieces_same;
    };
    s_fwd = λ s s' h x x' i. put_same other other plainly s s' h (forward_line s s' h x x' i);
    s_alias = λ s s' h x x' i. put_same other other plainly s s' h (forward_line s s' h x x' i);
    s_leaf = λ s s' h x x' i. put_same other other plainly s s' h (definition_line s s' h x x' i);
    s_body = λ s s' h x x' i. put_same (defines x) (defines x') (λ t. both_define x x' i t no_pieces) s s' h (definition_line s s' h x x' i);
    s_leaving = λ u v s s' h. h;
  }

  abbrev pub BothSessions : Sess (Ls (Known Names)) → Sess (Ls (Known Names)) → Type 0
  BothSessions = BothSess SameState I

  -- both opened
  pub opened_same : BothSessions (opened B) (opened B')
  unfolding afresh
  opened_same = record {
    same_open = refl;
    same_asked = none;
    alike = record {
      marks_same = fresh_list new;
      olist_same = none;
      emits_same = fresh_list new;
      fwds_same = fresh_list false;
      room_same = refl;
      known_same = record { names_same = record { versions_same = fresh_list 0; ledger_same = refl }; len_same = refl };
      pieces_same = no_pieces;
    };
  }

  -- one request
  pub request_same : (S S' : Sess (Ls (Known Names))) → BothSessions S S' → (room x x' : ℕ) → I x x'
      → BothAnswer SameState I (single (machine B) (table_of B) room S x) (single (machine B') (table_of B') room S' x')
  request_same S S' h room x x' i = single_same B n types tags I st (machine B) (machine B') SameState machine_same S S' h room x x' i

  dumped_same : {rs rs' : List Req} → Renumbered I rs rs' → (ns ns' : List (ℕ × ℕ)) → ns ≡ ns' → (S S' : Sess (Ls (Known Names))) → BothSessions S S' → dumped naming B ns rs S ≡ dumped naming B' ns' rs' S'
  unfolding dumped answer_to
  dumped_same no_requests ns ns' e S S' h = ap₂ dump e (pieces_text h.alike.pieces_same)
  dumped_same (request room x x' i r) ns ns' e S S' h =
      let a = request_same S S' h room x x' i in
      dumped_same r _ _
      (ap₂ (λ (l : List (ℕ × ℕ)) (p : ℕ × ℕ). l ++ (p ∷ [])) e (λ k. (a.same_number k, a.sessions.alike.known_same.len_same k)))
      _ _ a.sessions

  -- "the new section gives for the renumbered requests the same text and refusals as the old": the numbers, the text's length after each request, and
  -- the text, for all lists of requests, each lent the same room. By the rules, with the names of the Rust.
  pub same_dump : {rs rs' : List Req} → Renumbered I rs rs' → dump_types B rs ≡ dump_types B' rs'
  same_dump r = dumped_same r [] [] refl (opened B) (opened B') opened_same
