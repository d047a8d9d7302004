-- `try_fold` over a chain, by what a model makes of the list that the chain gives: std has no lemma of it. Assumes nothing.
use mathlib.Core.Path.{◌≡◌, ◌∙◌, sym, subst, refl}
use mathlib.Core.List.{List, [], ◌∷◌}
use denote.Param.Members.{Mut}
use Rattle.std.proofs.lemmas.Iterator.{YieldsList}
use Rattle.std.specs.Prelude.{Option, Some, None, Result, Ok, Err}
use Rattle.std.specs.Result.{MatchResult, IsErr, IsErrAnd}
use Rattle.std.specs.Option.{MatchOption}
use Rattle.std.specs.ControlFlow.{continue_value}
use Rattle.std.specs.declared.ops.ControlFlow.{ControlFlow}
use Rattle.std.specs.declared.ops.ControlFlow.TheVariants.{Continue, Break}
use Rattle.std.specs.Fn.{Called}
use Rattle.std.specs.List.{FoldsTo}
use Rattle.std.specs.Iterator.{Yields, AlwaysYields, TryFoldTurn, TryFoldsItems}

-- R: what is returned; Goes and Ends: what `try_fold` reads of it; v: what the model sees of an item
module _ {A B C R Y : Type 0} (v : A → B) (Goes : R → ControlFlow Y C → Type 0) (Ends : Y → R → Type 0) (Model : C → List B → R → Type 0) where
  -- a call of the closure went on, and so does the model over its item; it broke off, and the model ends with what is returned
  abbrev IsModelled : C → A → R → Type 0
  IsModelled c x w = ((d : C) → Goes w (Continue d) → (ys : List B) (r : R) → Model d ys r → Model c (v x ∷ ys) r)
      × ((e : Y) → Goes w (Break e) → (ys : List B) (r : R) → Ends e r → Model c (v x ∷ ys) r)

  module _ {S F : Type 0} (steps : S → Option A → S → Type 0) (g : Mut F (C × (A × Unit {0})) R) (f : F) (ends : (c : C) (r : R) → Goes r (Continue c) → Model c [] r)
      (turn : (c : C) (x : A) (w : R) (q : F) → Called g f (c, (x, tt)) w q → (q ≡ f) × IsModelled c x w) where
    abbrev Rest : List A → Option A → S → F × C → R → Type 0
    Rest xs o s p r = (t : S) × (u : S) × (q : F × C) × Yields steps s xs t × steps t o u × FoldsTo {P = F × C} (TryFoldTurn g Goes) p xs q
        × MatchOption o (Goes r (Continue q.1)) (λ x. (w : R) × (h : F) × (e : Y) × Called g q.0 (q.1, (x, tt)) w h × Goes w (Break e) × Ends e r)

    called : (p : F × C) (x : A) (w : R) (q : F) → p.0 ≡ f → Called g p.0 (p.1, (x, tt)) w q → (q ≡ f) × IsModelled p.1 x w
    called p x w q m d = turn p.1 x w q (subst (λ (h : F). Called g h (p.1, (x, tt)) w q) m d)

    run : (ys : List B) (xs : List A) (o : Option A) (s : S) (p : F × C) (r : R) → AlwaysYields steps v s ys → p.0 ≡ f → Rest xs o s p r → Model p.1 ys r
    run [] [] None s p r e m (t, u, q, y, n, c, w) = ends p.1 r (subst (λ (z : F × C). Goes r (Continue z.1)) (sym c) w)
    run [] [] (Some x) s p r e m (t, u, q, y, n, c, w) = absurd (e x u (subst (λ k. steps k (Some x) u) (sym y) n))
    run [] (x ∷ xs) o s p r e m (t, u, q, y, n, c, w) = absurd (e x y.0 y.1)
    run (z ∷ ys) [] None s p r e m (t, u, q, y, n, c, w) = absurd (e.0 u (subst (λ k. steps k None u) (sym y) n))
    run (z ∷ ys) [] (Some x) s p r e m (t, u, q, y, n, c, w) =
        subst (λ k. Model p.1 (k ∷ ys) r) (e.1 x u (subst (λ k. steps k (Some x) u) (sym y) n)).0
        ((called p x w.0 w.1 m (subst (λ (j : F × C). Called g j.0 (j.1, (x, tt)) w.0 w.1) (sym c) w.3)).1.1 w.2 w.4 ys r w.5)
    run (z ∷ ys) (x ∷ xs) o s p r e m (t, u, q, y, n, c, w) =
        let k = e.1 x y.0 y.1 in
        let h = called p x c.1.0 c.0.0 m c.1.1 in
        subst (λ b. Model p.1 (b ∷ ys) r) k.0 (h.1.0 c.0.1 c.1.2 ys r (run ys xs o y.0 c.0 r k.1 h.0 (t, u, q, y.2, n, c.2, w)))

-- the clause `ran` of a call of `try_fold` on the chain s, whose list is known
try_fold_from_yields_List : {S A B C F R Y : Type 0} {steps : S → Option A → S → Type 0} {v : A → B} {s : S} {all : List B} (g : Mut F (C × (A × Unit {0})) R) {f : F}
    (Goes : R → ControlFlow Y C → Type 0) (Ends : Y → R → Type 0) (init : C) (r : R) (u : S)
    → TryFoldsItems steps g Goes Ends s f init r u → YieldsList steps v s all → (Model : C → List B → R → Type 0)
    → ((c : C) (r : R) → Goes r (Continue c) → Model c [] r) → ((c : C) (x : A) (w : R) (q : F) → Called g f (c, (x, tt)) w q → (q ≡ f) × IsModelled v Goes Ends Model c x w) → Model init all r
try_fold_from_yields_List {steps = steps} {v = v} {s = s} {all = all} g {f = f} Goes Ends init r u (xs, o, j, a, (t, y, n), c, w) e Model ends turn =
    run v Goes Ends Model steps g f ends turn all xs o s (f, init) r e.runs refl (t, u, (j, a), y, n, c, w)

-- to an Option: it breaks off at None
module _ {A B C : Type 0} (v : A → B) (Model : C → List B → Option C → Type 0) where
  abbrev pub OptionTurn : C → A → Option C → Type 0
  OptionTurn c x w = MatchOption w ((ys : List B) → Model c (v x ∷ ys) None) (λ d. (ys : List B) (r : Option C) → Model d ys r → Model c (v x ∷ ys) r)

  option_modelled : {Y : Type 0} (c : C) (x : A) (w : Option C) → OptionTurn c x w
      → IsModelled v (λ w (b : ControlFlow Y C). w ≡ continue_value b) (λ (e : Y) (r : Option C). r ≡ None) Model c x w
  option_modelled c x w h = (λ d e. subst (OptionTurn c x) e h, λ y e ys r k. subst (Model c (v x ∷ ys)) (sym k) (subst (OptionTurn c x) e h ys))

pub try_fold_option_from_yields_List : {S A B C F Y : Type 0} {steps : S → Option A → S → Type 0} {v : A → B} {s : S} {all : List B} (g : Mut F (C × (A × Unit {0})) (Option C)) {f : F} (init : C) (r : Option C) (u : S)
    → TryFoldsItems steps g (λ (w : Option C) (b : ControlFlow Y C). w ≡ continue_value b) (λ (e : Y) (o : Option C). o ≡ None) s f init r u → YieldsList steps v s all → (Model : C → List B → Option C → Type 0)
    → ((c : C) → Model c [] (Some c)) → ((c : C) (x : A) (w : Option C) (q : F) → Called g f (c, (x, tt)) w q → (q ≡ f) × OptionTurn v Model c x w) → Model init all r
try_fold_option_from_yields_List {C = C} {Y = Y} {v = v} g init r u ran list Model ends turn =
    try_fold_from_yields_List g (λ (w : Option C) (b : ControlFlow Y C). w ≡ continue_value b) (λ (e : Y) (o : Option C). o ≡ None) init r u ran list Model (λ c r e. subst (Model c []) (sym e) (ends c)) (λ c x w q d. ((turn c x w q d).0, option_modelled v Model c x w (turn c x w q d).1))

-- to a Result: it breaks off at an Err
module _ {A B C X : Type 0} (v : A → B) (Model : C → List B → Result C X → Type 0) where
  abbrev pub ResultTurn : C → A → Result C X → Type 0
  ResultTurn c x w = MatchResult w (λ d. (ys : List B) (r : Result C X) → Model d ys r → Model c (v x ∷ ys) r) (λ e. (ys : List B) → Model c (v x ∷ ys) (Err e))

  result_modelled : {Y : Type 0} (flow : ControlFlow Y C → Result C X) (error : Y → X) → ((c : C) → flow (Continue c) ≡ Ok c) → ((e : Y) → flow (Break e) ≡ Err (error e))
      → (c : C) (x : A) (w : Result C X) → ResultTurn c x w → IsModelled v (λ w b. w ≡ flow b) (λ (e : Y) (r : Result C X). IsErr r × IsErrAnd r (λ y. y ≡ error e)) Model c x w
  result_modelled {Y} flow error goes_on breaks c x w h = (λ d e. subst (ResultTurn c x) (e ∙ goes_on d) h, λ y e ys. broken y ys (subst (ResultTurn c x) (e ∙ breaks y) h ys))
    where
      broken : (y : Y) (ys : List B) → Model c (v x ∷ ys) (Err (error y)) → (r : Result C X) → IsErr r × IsErrAnd r (λ z. z ≡ error y) → Model c (v x ∷ ys) r
      broken y ys m (Ok d) k = absurd k.1
      broken y ys m (Err z) k = subst (λ (z : X). Model c (v x ∷ ys) (Err z)) (sym k.1) m

pub try_fold_result_from_yields_List : {S A B C F X Y : Type 0} {steps : S → Option A → S → Type 0} {v : A → B} {s : S} {all : List B} (g : Mut F (C × (A × Unit {0})) (Result C X)) {f : F}
    (flow : ControlFlow Y C → Result C X) (error : Y → X) (goes_on : (c : C) → flow (Continue c) ≡ Ok c) (breaks : (e : Y) → flow (Break e) ≡ Err (error e)) (init : C) (r : Result C X) (u : S)
    → TryFoldsItems steps g (λ w b. w ≡ flow b) (λ e r. IsErr r × IsErrAnd r (λ y. y ≡ error e)) s f init r u → YieldsList steps v s all → (Model : C → List B → Result C X → Type 0)
    → ((c : C) → Model c [] (Ok c)) → ((c : C) (x : A) (w : Result C X) (q : F) → Called g f (c, (x, tt)) w q → (q ≡ f) × ResultTurn v Model c x w) → Model init all r
try_fold_result_from_yields_List {C = C} {X = X} {v = v} g flow error goes_on breaks init r u ran list Model ends turn =
    try_fold_from_yields_List g (λ w b. w ≡ flow b) (λ e (r : Result C X). IsErr r × IsErrAnd r (λ y. y ≡ error e)) init r u ran list Model (λ c r e. subst (Model c []) (sym (e ∙ goes_on c)) (ends c))
    (λ c x w q d. ((turn c x w q d).0, result_modelled v Model flow error goes_on breaks c x w (turn c x w q d).1))
