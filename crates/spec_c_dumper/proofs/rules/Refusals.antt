-- The refusals of an emitter are 12, 15, 16 and 18; and 20, if a name can pass. Assumes nothing.
use Prim.Native.Nat.{ℕ}
use mathlib.Core.Path.{◌≡◌}
use mathlib.Core.Bool.{Bool, true}
use mathlib.Core.List.{List, []}
use Rattle.spec_bytes.specs.text.Text.{Text, whole, cut, join}
use Rattle.spec_c_dumper.specs.rules.Writer.{reserve_passed, Said, said, said_text, Writer, after, next, put, stop, ◌⨾◌}
use Rattle.spec_c_dumper.specs.rules.Types.{Name, Member, BtfType, Btf}
use Rattle.spec_c_dumper.specs.rules.Names.{Space, Resolved, Naming, resolving}
use Rattle.spec_c_dumper.specs.rules.Decl.{Entry, emit_type_decl, emit_type_chain, emit_composite_def, emit_typedef_def}
use Rattle.spec_c_dumper.specs.rules.Emit.{definition, forward}
use Rattle.spec_c_dumper.proofs.rules.Closed.{Code, Closed, r_emit_type_decl, r_emit_type_chain, r_emit_composite_def, r_emit_typedef_def, r_definition, r_forward}
use Rattle.spec_c_dumper.proofs.rules.Held.{resolved}
use Rattle.spec_c_dumper.proofs.rules.Keeps.{any_name, any_value, type_fits}

-- a whole text, or one cut by a number of C
pub data Told (C : ℕ → Type 0) : Text → Type 0 where
  told : (a : List ℕ) → Told C (whole a)
  cut_by : (a : List ℕ) (c : ℕ) → C c → Told C (cut a c)

-- a name that passes what the session may take
pub data Passing {U : Type 0} (N : Naming U) : Type 0 where
  type_passing : (space : Space) (id : ℕ) (name : Name) (u : U) → (N.type_version space id name u).passes ≡ true → Passing N
  value_passing : (id i : ℕ) (name : Name) (u : U) → (N.value_version id i name u).passes ≡ true → Passing N

told_join : (C : ℕ → Type 0) (a : List ℕ) (t : Text) → Told C t → Told C (join (whole a) t)
unfolding join
told_join C a _ (told b) = told _
told_join C a _ (cut_by b c q) = cut_by _ c q

module _ {U : Type 0} (C : ℕ → Type 0) where
  abbrev pub Tells : Writer U → Type 0
  Tells w = (u : U) → Told C (said_text (w u))

  told_after : (a : List ℕ) (k : List U) (s : Said U) → Told C (said_text s) → Told C (said_text (after a k s))
  unfolding after said_text
  told_after a k (said u t m) h = told_join C a t h

  told_next : (s : Said U) (w : Writer U) → Told C (said_text s) → Tells w → Told C (said_text (next s w))
  unfolding next said_text
  told_next (said u (whole a) k) w h hw = told_after a k (w u) (hw u)
  told_next (said u (cut a c) k) w h hw = h

  tells_put : (a : List ℕ) → Tells (put a)
  unfolding put said_text
  tells_put a u = told a

  tells_stop : (c : ℕ) → C c → Tells (stop c)
  unfolding stop said_text
  tells_stop c q u = cut_by [] c q

  tells_then : (v w : Writer U) → Tells v → Tells w → Tells (v ⨾ w)
  unfolding ◌⨾◌
  tells_then v w hv hw u = told_next (v u) w (hv u) hw

  tells_resolving : (f : U → Resolved U) → ((u : U) → (f u).passes ≡ true → C reserve_passed) → (k : ℕ → Writer U) → ((n : ℕ) → Tells (k n)) → Tells (resolving f k)
  tells_resolving f hf k h u = resolved (λ s. Told C (said_text s)) f k u (λ e. tells_stop reserve_passed (hf u e) u) (λ e. h (f u).version (f u).names)

-- C has the refusals of a line, and 20 if a name passes
module _ {U : Type 0} (N : Naming U) (C : ℕ → Type 0) (of_line : (c : ℕ) → Code c → C c) (of_name : Passing N → C reserve_passed) where
  abbrev TellsBoth : Writer U → Writer U → Type 0
  TellsBoth w₁ w₂ = Tells C w₁

  pub tells_closed : Closed N N any_name any_value TellsBoth
  tells_closed = record {
    c_put = λ a. tells_put C a;
    c_stop = λ c q. tells_stop C c (of_line c q);
    c_then = λ v₁ w₁ v₂ w₂ hv hw. tells_then C v₁ w₁ hv hw;
    c_type = λ space id name fit e k₁ k₂ h. tells_resolving C (N.type_version space id name) (λ u q. of_name (type_passing space id name u q)) k₁ h;
    c_value = λ id i name fit k₁ k₂ h. tells_resolving C (N.value_version id i name) (λ u q. of_name (value_passing id i name u q)) k₁ h;
  }

  module _ (B : Btf) where
    pub tells_emit_type_decl : (left id : ℕ) (fname : Name) (lvl : ℕ) → Tells C (emit_type_decl N B left id fname lvl)
    tells_emit_type_decl left id fname lvl = r_emit_type_decl N N any_name any_value TellsBoth tells_closed B (λ x. type_fits x (B.type_by_id x)) left id fname lvl

    pub tells_emit_type_chain : (left : ℕ) (c : List Entry) (fname : Name) (lvl : ℕ) → Tells C (emit_type_chain N B left c fname lvl)
    tells_emit_type_chain left c fname lvl = r_emit_type_chain N N any_name any_value TellsBoth tells_closed B (λ x. type_fits x (B.type_by_id x)) left c fname lvl

    pub tells_emit_composite_def : (left id : ℕ) (is_struct : Bool) (name : Name) (sz : ℕ) (ms : List Member) (lvl : ℕ) → Tells C (emit_composite_def N B left id is_struct name sz ms lvl)
    tells_emit_composite_def left id is_struct name sz ms lvl =
        r_emit_composite_def N N any_name any_value TellsBoth tells_closed B (λ x. type_fits x (B.type_by_id x)) left id is_struct name sz ms lvl tt

    pub tells_emit_typedef_def : (id : ℕ) (name : Name) (t : ℕ) → Tells C (emit_typedef_def N B id name t)
    tells_emit_typedef_def id name t = r_emit_typedef_def N N any_name any_value TellsBoth tells_closed B (λ x. type_fits x (B.type_by_id x)) id name t tt

    pub tells_definition : (id : ℕ) (t : BtfType) → Tells C (definition N B id t)
    tells_definition id t = r_definition N N any_name any_value TellsBoth tells_closed B (λ x. type_fits x (B.type_by_id x)) id t (type_fits id t)

    pub tells_forward : (id : ℕ) (t : BtfType) → Tells C (forward N B id t)
    tells_forward id t = r_forward N N any_name any_value TellsBoth tells_closed B (λ x. type_fits x (B.type_by_id x)) id t (type_fits id t)
