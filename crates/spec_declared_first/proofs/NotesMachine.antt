-- The machine of lists with notes does what ordering and emission ask of a machine: every note fits after those before it.
use Prim.Native.Nat.{ℕ, ◌+◌, ◌<◌}
use mathlib.Core.Path.{◌≡◌, refl, sym, ◌∙◌, ap, subst}
use mathlib.Core.Bool.{Bool, true, false, ◌&&◌, true≢false}
use mathlib.Core.List.Memᴰ
use mathlib.Core.List.{List, [], ◌∷◌, ◌++◌, Memᴰ}
use mathlib.Core.Logic.{◌⊎◌, inl, inr}
use lib.ListN.{length, length-set}
use lib.Seq.{get_or-set_same, get_or-set_other}
use lib.Dec.{leb}
use Rattle.spec_bytes.specs.text.Text.{Text, whole, cut, bytes}
use Rattle.spec_c_dumper.specs.rules.Order.{Node, listed, tdef, comp, Table, is_comp, new}
use Rattle.spec_c_dumper.specs.rules.Machine.{Out}
use Rattle.spec_c_dumper.specs.rules.Writer.{Said, said, Writer}
use Rattle.spec_c_dumper.specs.rules.Types.{is_empty, BtfType, Void, Int, Ptr, Array, Composite, Enum, Enum64, Fwd, Typedef, Mod, Func, Var, Datasec, FuncProto, Float, DeclTag, TypeTag, Btf, node_of, table_of}
use Rattle.spec_c_dumper.specs.rules.Layout.{smaller}
use Rattle.spec_c_dumper.specs.rules.Names.{tag_space, Naming}
use Rattle.spec_c_dumper.specs.rules.Emit.{definition, forward}
use Rattle.spec_c_dumper.specs.needs.Needs.{kids}
use Rattle.spec_c_dumper.specs.needs.Lists.{Piece, defines, other, Line, cannot, Ls, put_line}
use Rattle.spec_c_dumper.specs.needs.Session.{Known, fitting, line_of}
use Rattle.spec_c_dumper.proofs.origins.Keeps.{Comes, comes, halts}
use Rattle.spec_c_dumper.proofs.needs.Splits.{nil_not, snoc_split}
use Rattle.spec_declared_first.specs.Notes.{Mention, Asked, noting, Note, Seen, with_note, unasked, notes_machine}
use Rattle.spec_declared_first.specs.Declared.{NoBuiltin, Key, key_of, keys_of, own_name, Stands, bytes_of, Declares, Above, ItsTag, FitsBefore, DeclaredAbove}
use Rattle.spec_declared_first.proofs.Reach.{stops, Reach, at, on, is_leaf, HasName}
use Rattle.spec_declared_first.proofs.Ordering.{Steady}
use Rattle.spec_declared_first.proofs.Emission.{Wrote, Noting}
use Rattle.spec_declared_first.proofs.Writers.{Open}
use Rattle.spec_declared_first.proofs.Kept.{Keeping}
use Rattle.spec_declared_first.proofs.Renamed.{Shown, shown_forward, shown_definition}
use Rattle.spec_declared_first.proofs.Lines.{is_tdef, HasNote, keys_one, Spelt, Held, Owned, May, Going, asks_ok, counts_ok, Right, Starts, forward_composite, forward_typedef, definition_leaf, definition_composite}

has_more : (notes : List Note) (p : Note) (w : ℕ) → HasNote notes w → HasNote (notes ++ (p ∷ [])) w
has_more notes p w h = (h.0, Memᴰ.append_left (p ∷ []) h.1, h.2)

module _ (B : Btf) where
  -- each note fits after those before it
  pub data Orderly : List Note → Type 0 where
    none : Orderly []
    snoc : {l : List Note} {p : Note} → Orderly l → FitsBefore B l p → Orderly (l ++ (p ∷ []))

  orderly_split : {L : List Note} → Orderly L → (l₁ l₂ : List Note) (p : Note) → L ≡ l₁ ++ (p ∷ l₂) → FitsBefore B l₁ p
  orderly_split none l₁ l₂ p e = absurd (nil_not l₁ l₂ p e)
  orderly_split (snoc {l = l} {p = q} h f) l₁ l₂ p e = go (λ k r. orderly_split h l₁ k p r) (snoc_split l l₁ l₂ q p e)
    where
      go : ((k : List Note) → l ≡ l₁ ++ (p ∷ k) → FitsBefore B l₁ p) → ((l ≡ l₁) × (q ≡ p)) ⊎ ((k : List Note) × (l ≡ l₁ ++ (p ∷ k))) → FitsBefore B l₁ p
      go r (inl u) = subst (λ (k : List Note). FitsBefore B k p) u.0 (subst (λ (k : Note). FitsBefore B l k) u.1 f)
      go r (inr u) = r u.0 u.1

  -- each note fits after some of them
  orderly_mem : {L : List Note} → Orderly L → (q : Note) → Memᴰ q L → (before : List Note) × FitsBefore B before q
  orderly_mem none q m = absurd (Memᴰ.not-nil m)
  orderly_mem (snoc {l = l} {p = p} h f) q m = go (λ k. orderly_mem h q k) (Memᴰ.append_cases l m)
    where
      go : (Memᴰ q l → (before : List Note) × FitsBefore B before q) → Memᴰ q l ⊎ Memᴰ q (p ∷ []) → (before : List Note) × FitsBefore B before q
      go r (inl k) = r k
      go r (inr k) = (l, subst (FitsBefore B l) (sym (Memᴰ.eq_of_singleton k)) f)

  orderly_owned : (notes : List Note) → Orderly notes → Owned B notes
  orderly_owned notes o q i k e = (
    r.0,
    record {
      rest = f.uses;
      begins = f.mentions ∙ ap (λ (l : List Mention). l ++ f.uses) r.1;
      is_own = sym f.is_own ∙ ap keys_of r.1;
    },
  )
    where
      f : FitsBefore B (orderly_mem o q i).0 q
      f = (orderly_mem o q i).1

      r : (m : Mention) × (f.own ≡ m ∷ []) × (key_of m ≡ k)
      r = keys_one f.own k (f.is_own ∙ e)

  pub declared_above : (notes : List Note) → Orderly notes → DeclaredAbove B notes
  declared_above notes o = record { fits = λ before after p e. orderly_split o before after p e }

-- the own name of a composite is a tag
own_tag : (x : ℕ) (t : BtfType) → is_comp (node_of t) ≡ true → (m : Key) → own_name x t ≡ m ∷ [] → m ≡ record { space = tag_space; id = x }
own_tag x Void c m e = absurd (true≢false (sym c))
own_tag x (Int n b) c m e = absurd (true≢false (sym c))
own_tag x (Ptr t) c m e = absurd (true≢false (sym c))
own_tag x (Array t k) c m e = absurd (true≢false (sym c))
own_tag x (Composite s n z ms) c m e = go (is_empty n) e
  where
    go : (b : Bool) → ◌≡◌ {A = List Key} (elim b as (λ (t : Bool). List Key) [ true ↦ [] | false ↦ record { space = tag_space; id = x } ∷ [] ]) (m ∷ []) → m ≡ record { space = tag_space; id = x }
    go true q = absurd (nil_not [] [] m q)
    go false q = let r : ◌≡◌ {A = Key} (record { space = tag_space; id = x }) m = cc in sym r
own_tag x (Enum s n z vs) c m e = absurd (true≢false (sym c))
own_tag x (Enum64 s n z vs) c m e = absurd (true≢false (sym c))
own_tag x (Fwd u n) c m e = absurd (true≢false (sym c))
own_tag x (Typedef n t) c m e = absurd (true≢false (sym c))
own_tag x (Mod q t) c m e = absurd (true≢false (sym c))
own_tag x (Func n) c m e = absurd (true≢false (sym c))
own_tag x (Var n) c m e = absurd (true≢false (sym c))
own_tag x (Datasec n) c m e = absurd (true≢false (sym c))
own_tag x (FuncProto r ps) c m e = absurd (true≢false (sym c))
own_tag x (Float n z) c m e = absurd (true≢false (sym c))
own_tag x (DeclTag a n t k) c m e = absurd (true≢false (sym c))
own_tag x (TypeTag a n t) c m e = absurd (true≢false (sym c))

stops_comp : (T : Table) (x : ℕ) → stops T x ≡ true → is_comp (T.node x) ≡ true
stops_comp T x e = go (is_comp (T.node x)) refl
  where
    go : (b : Bool) → is_comp (T.node x) ≡ b → is_comp (T.node x) ≡ true
    go true q = q
    go false q = absurd (true≢false (sym e ∙ ap (λ (b : Bool). b && T.named x) q))

reach_below : (T : Table) → ((x y : ℕ) → Memᴰ y (kids (T.node x)) → y < T.count) → (y w : ℕ) → y < T.count → Reach T y w → w < T.count
reach_below T below y w l (at e) = subst (λ (k : ℕ). k < T.count) e l
reach_below T below y w l (on {z = z} s m r) = reach_below T below z w (below y z m) r

module _ {U : Type 0} (N : Naming U) (B : Btf) (nb : NoBuiltin B) (below : (x y : ℕ) → Memᴰ y (kids ((table_of B).node x)) → y < B.type_cnt)
    (Sound : U → Type 0) (Holds : U → ℕ → ℕ → Type 0) (keep : Keeping N B.type_cnt Sound Holds) where
  abbrev T : Table
  T = table_of B

  pub record Good (s : Ls (Seen U)) : Type 0 where
    pub marks_n : length s.marks ≡ B.type_cnt
    pub emits_n : length s.emits ≡ B.type_cnt
    pub fwds_n : length s.fwds ≡ B.type_cnt
    pub orderly : Orderly B s.known.notes
    pub sound : Sound s.known.known.names
    pub held : Held B Holds s.known.notes s.known.known.names

  abbrev pub Told : Ls (Seen U) → ℕ → Type 0
  Told s w = HasNote s.known.notes w

  abbrev Wrote' : ℕ → Ls (Seen U) → Ls (Seen U) → Type 0
  Wrote' x s s' = Wrote (notes_machine N B) T Good Told x s s'

  -- a line of type x, by a writer that asks only for what it may
  module _ (s : Ls (Seen U)) (x : ℕ) (l : x < B.type_cnt) (Q : Type 0) (mk : List ℕ → Piece) (bytes_mk : (t : List ℕ) → bytes_of (mk t) ≡ t)
      (body : Q → (is_comp (node_of (B.type_by_id x)) ≡ true) × ((t : List ℕ) → mk t ≡ defines x t)) (g : Good s) where
    abbrev notes : List Note
    notes = s.known.notes

    owned : Owned B notes
    owned = orderly_owned B notes g.orderly

    abbrev Goes : Asked U → Type 0
    Goes a = Going N B nb Sound Holds keep notes owned x l Q a

    abbrev Opens : ℕ → Type 0
    Opens y = Open N (May N B nb Sound Holds keep notes owned x l Q) (Going N B nb Sound Holds keep notes owned x l Q) (asks_ok N B nb Sound Holds keep notes owned x l Q) (counts_ok N B nb Sound Holds keep notes owned x l Q) B y

    open_may : (y : ℕ) → y < B.type_cnt → ((w : ℕ) → Reach T y w → HasName T w → HasNote notes w ⊎ ((w ≡ x) × Q)) → Opens y
    open_may y ly h w r n space o = (o, refl, reach_below T below y w ly r, h w r n)

    module _ (a : Asked U) (t : List ℕ) (h : Goes a) (sh : (m : Mention) → Memᴰ m a.mentions → Stands m.name t) where
      abbrev p : Note
      p = record { piece = mk t; id = x; mentions = a.mentions }

      its_own : (m : Mention) → h.own ≡ m ∷ [] → Declares B p m
      its_own m e = record { rest = h.uses; begins = h.mentions ∙ ap (λ (k : List Mention). k ++ h.uses) e; is_own = sym h.is_own ∙ ap keys_of e }

      fits_note : FitsBefore B notes p
      fits_note = record { own = h.own; uses = h.uses; mentions = h.mentions; is_own = h.is_own; stand = λ m i. subst (Stands m.name) (sym (bytes_mk t)) (sh m i); each = λ m q. go m (h.each m q) }
        where
          go : (m : Mention) → Above B notes m ⊎ ((h.own ≡ m ∷ []) × Q) → Above B notes m ⊎ ItsTag B p m
          go m (inl q) = inl q
          go m (inr q) =
              let d : Declares B p m = its_own m q.0 in
              inr (record { text = t; is_body = (body q.1).1 t; is_tag = ap (λ (k : Key). k.space) (own_tag x (B.type_by_id x) (body q.1).0 (key_of m) d.is_own); declares = d })

      -- what it declares is spelled as the names now have it
      held_note : Held B Holds (notes ++ (p ∷ [])) a.names
      held_note q m i d = go (Memᴰ.append_cases notes i)
        where
          mine : Declares B p m → Spelt B Holds a.names m
          mine k = h.mine m (o.1 ∙ ap (λ (j : Mention). j ∷ []) same)
            where
              o : (j : Mention) × (h.own ≡ j ∷ []) × (key_of j ≡ key_of m)
              o = keys_one h.own (key_of m) (h.is_own ∙ k.is_own)

              both : o.0 ∷ h.uses ≡ m ∷ k.rest
              both = sym (h.mentions ∙ ap (λ (j : List Mention). j ++ h.uses) o.1) ∙ k.begins

              same : o.0 ≡ m
              same = let b : o.0 ∷ h.uses ≡ m ∷ k.rest = both in cc

          go : Memᴰ q notes ⊎ Memᴰ q (p ∷ []) → Spelt B Holds a.names m
          go (inl j) = h.held q m j d
          go (inr j) = mine (subst (λ (k : Note). Declares B k m) (Memᴰ.eq_of_singleton j) d)

    abbrev put' : Line (Known (Asked U)) (Asked U) → Out (Ls (Seen U)) U
    put' k = put_line mk s (with_note mk x s.known k)

    fitting_ok : (len : ℕ) (u : Asked U) (t : Text) (m : List (Asked U)) → Right N B nb Sound Holds keep notes owned x l Q (said u t m) → Shown N B (said u t m) → Comes (Wrote' x s) (put' (fitting len u t))
    unfolding fitting
    fitting_ok len u (whole a) m h sh = comes (record {
      good = record {
        marks_n = g.marks_n;
        emits_n = g.emits_n;
        fwds_n = g.fwds_n;
        orderly = snoc g.orderly (fits_note u a h sh);
        sound = h.sound;
        held = held_note u a h sh;
      };
      gets = λ d. refl;
      egets = λ d. refl;
      has = λ d. refl;
      decs = λ w d. has_more notes (p u a h sh) w d;
      self = (p u a h sh, Memᴰ.append_right notes (Memᴰ.head refl), refl);
    })
    fitting_ok len u (cut a c) m h sh = halts

    said_ok : (room len : ℕ) (q : Said (Asked U)) → Right N B nb Sound Holds keep notes owned x l Q q → Shown N B q → Comes (Wrote' x s) (put' (line_of room len q))
    unfolding line_of
    said_ok room len (said u t m) h sh = go _ (leb (len + length (bytes t)) (smaller room 1073741824))
      where
        go : (a : Asked U) (b : Bool) → Comes (Wrote' x s) (put' (elim b [ true ↦ fitting len u t | false ↦ cannot a 17 ]))
        go a true = fitting_ok len u t m h sh
        go a false = halts

    line_ok : (w : Writer (Asked U)) → Starts N B nb Sound Holds keep notes owned x l Q w → Shown N B (w (unasked s.known)) → Comes (Wrote' x s) (put' (line_of s.room s.known.known.text_len (w (unasked s.known))))
    line_ok w h sh = said_ok s.room s.known.known.text_len (w (unasked s.known)) (h.starts (unasked s.known) (record { sound = g.sound; held = g.held; nil = refl })) sh

  none_of : {X : Type 0} → ⊥ → X
  none_of q = absurd q

  fwd_ok : (s : Ls (Seen U)) (x : ℕ) → Good s → x < B.type_cnt → stops T x ≡ true → Comes (Wrote' x s) ((notes_machine N B).fwd_line s x)
  fwd_ok s x g l p =
      line_ok s x l ⊥ other (λ t. refl) none_of g (forward (noting N) B x (B.type_by_id x))
      (forward_composite N B nb Sound Holds keep s.known.notes (owned s x l ⊥ other (λ t. refl) none_of g) x l ⊥ (B.type_by_id x) refl (stops_comp T x p))
      (shown_forward N B x (unasked s.known) refl)

  leaf_ok : (s : Ls (Seen U)) (x : ℕ) (f : Bool) → Good s → x < B.type_cnt → T.node x ≡ listed f → Comes (Wrote' x s) ((notes_machine N B).leaf_line s x)
  leaf_ok s x f g l e =
      line_ok s x l ⊥ other (λ t. refl) none_of g (definition (noting N) B x (B.type_by_id x))
      (definition_leaf N B nb Sound Holds keep s.known.notes (owned s x l ⊥ other (λ t. refl) none_of g) x l ⊥ (B.type_by_id x) refl (ap is_leaf e))
      (shown_definition N B x (unasked s.known) refl)

  alias_ok : (s : Ls (Seen U)) (x t : ℕ) → Good s → x < B.type_cnt → T.node x ≡ tdef t → ((w : ℕ) → Reach T t w → HasName T w → Told s w) → Comes (Wrote' x s) ((notes_machine N B).alias_line s x)
  alias_ok s x t g l e h =
      line_ok s x l ⊥ other (λ t. refl) none_of g (forward (noting N) B x (B.type_by_id x))
      (forward_typedef N B nb Sound Holds keep s.known.notes (owned s x l ⊥ other (λ t. refl) none_of g) x l ⊥ (B.type_by_id x) refl (ap is_tdef e)
      (λ y m. open_may s x l ⊥ other (λ t. refl) none_of g y (below x y m) (λ w r n. inl (h w (subst (λ (k : ℕ). Reach T k w) (Memᴰ.eq_of_singleton (subst (λ (k : Node). Memᴰ y (kids k)) e m)) r) n))))
      (shown_forward N B x (unasked s.known) refl)

  body_ok : (s : Ls (Seen U)) (x : ℕ) (ms : List ℕ) → Good s → x < B.type_cnt → T.node x ≡ comp ms → ((m w : ℕ) → Memᴰ m ms → Reach T m w → HasName T w → Told s w ⊎ (w ≡ x)) → Comes (Wrote' x s) ((notes_machine N B).body s x)
  body_ok s x ms g l e h =
      line_ok s x l (Unit {0}) (defines x) (λ t. refl) its g (definition (noting N) B x (B.type_by_id x))
      (definition_composite N B nb Sound Holds keep s.known.notes (owned s x l (Unit {0}) (defines x) (λ t. refl) its g) x l (Unit {0}) (B.type_by_id x) refl (ap is_comp e)
      (λ y m. open_may s x l (Unit {0}) (defines x) (λ t. refl) its g y (below x y m) (λ w r n. used w (h y w (subst (λ (k : Node). Memᴰ y (kids k)) e m) r n))))
      (shown_definition N B x (unasked s.known) refl)
    where
      its : Unit {0} → (is_comp (node_of (B.type_by_id x)) ≡ true) × ((t : List ℕ) → defines x t ≡ defines x t)
      its u = (ap is_comp e, λ t. refl)

      used : (w : ℕ) → Told s w ⊎ (w ≡ x) → Told s w ⊎ ((w ≡ x) × Unit {0})
      used w (inl d) = inl d
      used w (inr q) = inr (q, tt)

  pub notes_noting : Noting (notes_machine N B) T Good Told
  notes_noting = record {
    emark_good = λ m x s g l. record { marks_n = g.marks_n; emits_n = length-set s.emits x m ∙ g.emits_n; fwds_n = g.fwds_n; orderly = g.orderly; sound = g.sound; held = g.held };
    emark_gets = λ m x s g l d. refl;
    emark_same = λ m x s g l. get_or-set_same s.emits x m new (subst (λ (k : ℕ). x < k) (sym g.emits_n) l);
    emark_other = λ m x s g l d q. get_or-set_other s.emits x d m new q;
    emark_has = λ m x s g l d. refl;
    emark_decs = λ m x s g l w h. h;
    fwd_good = λ x s g l. record { marks_n = g.marks_n; emits_n = g.emits_n; fwds_n = length-set s.fwds x true ∙ g.fwds_n; orderly = g.orderly; sound = g.sound; held = g.held };
    fwd_gets = λ x s g l d. refl;
    fwd_egets = λ x s g l d. refl;
    fwd_has = λ x s g l d q. get_or-set_other s.fwds x d true false q;
    fwd_decs = λ x s g l w h. h;
    fwd_line = fwd_ok;
    leaf_line = leaf_ok;
    alias_line = alias_ok;
    body_line = λ s x ms g l e nm h. body_ok s x ms g l e h;
  }

  -- what ordering leaves alone
  pub record Frame (s s' : Ls (Seen U)) : Type 0 where
    pub egets : (d : ℕ) → (notes_machine N B).eget s' d ≡ (notes_machine N B).eget s d
    pub has : (d : ℕ) → (notes_machine N B).has_fwd s' d ≡ (notes_machine N B).has_fwd s d
    pub decs : (w : ℕ) → Told s w → Told s' w

  pub notes_steady : Steady (notes_machine N B).store B.type_cnt Good Frame
  notes_steady = record {
    mark_good = λ m x s g l. record { marks_n = length-set s.marks x m ∙ g.marks_n; emits_n = g.emits_n; fwds_n = g.fwds_n; orderly = g.orderly; sound = g.sound; held = g.held };
    mark_same = λ m x s g l. get_or-set_same s.marks x m new (subst (λ (k : ℕ). x < k) (sym g.marks_n) l);
    mark_other = λ m x s g l d q. get_or-set_other s.marks x d m new q;
    mark_list = λ m x s g l. refl;
    push_good = λ x s g l. record { marks_n = g.marks_n; emits_n = g.emits_n; fwds_n = g.fwds_n; orderly = g.orderly; sound = g.sound; held = g.held };
    push_get = λ x s g l d. refl;
    push_list = λ x s g l. refl;
    fr_same = λ s. record { egets = λ d. refl; has = λ d. refl; decs = λ w h. h };
    fr_then = λ a b c p q. record { egets = λ d. q.egets d ∙ p.egets d; has = λ d. q.has d ∙ p.has d; decs = λ w h. q.decs w (p.decs w h) };
    fr_mark = λ m x s g l. record { egets = λ d. refl; has = λ d. refl; decs = λ w h. h };
    fr_push = λ x s g l. record { egets = λ d. refl; has = λ d. refl; decs = λ w h. h };
  }
