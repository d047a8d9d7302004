-- A machine of plain lists, over any way of writing a line: pieces with their bytes.
use Rattle.std.specs.Prelude.{ℕ, Bool, true, false, List, [], ◌∷◌, ◌++◌, get_or, set, replicate}
use Rattle.spec_c_dumper.specs.rules.Order.{Mark, new, Store}
use Rattle.spec_c_dumper.specs.rules.Machine.{Out, wrote, stuck, Machine}

-- a piece that defines the composite with this id, or one that defines nothing
pub data Piece : Type 0 where
  defines : ℕ → List ℕ → Piece
  other : List ℕ → Piece

unfoldable pub tags_of : List Piece → List ℕ
tags_of [] = []
tags_of (defines x t ∷ ps) = x ∷ tags_of ps
tags_of (other t ∷ ps) = tags_of ps

-- what a line comes to: what the writer knows after it, and its bytes; or a refusal, and what is held of the names where it stops
pub data Line (U H : Type 0) : Type 0 where
  says : U → List ℕ → Line U H
  cannot : H → ℕ → Line U H

-- with the room that the text has, and what is known; what is held of it, and what a refused request leaves of what it held
pub record Lines (U H : Type 0) : Type 0 where
  pub fwd : ℕ → U → ℕ → Line U H
  pub alias' : ℕ → U → ℕ → Line U H
  pub leaf' : ℕ → U → ℕ → Line U H
  pub body' : ℕ → U → ℕ → Line U H
  pub held' : U → H
  pub leaving' : H → U → U

pub record Ls (U : Type 0) : Type 0 where
  pub marks : List Mark
  pub olist : List ℕ
  pub emits : List Mark
  pub fwds : List Bool
  pub room : ℕ
  pub known : U
  pub pieces : List Piece

module _ {U H : Type 0} where
  abbrev pub put_line : (List ℕ → Piece) → Ls U → Line U H → Out (Ls U) H
  put_line mk s (says u t) =
      wrote (record {
        marks = s.marks;
        olist = s.olist;
        emits = s.emits;
        fwds = s.fwds;
        room = s.room;
        known = u;
        pieces = s.pieces ++ (mk t ∷ []);
      })
  put_line mk s (cannot held e) = stuck held e

module _ {U : Type 0} where
  abbrev pub list_store : Store (Ls U)
  list_store = record {
    get = λ s x. get_or s.marks x new;
    mark = λ m x s. record {
      marks = set s.marks x m;
      olist = s.olist;
      emits = s.emits;
      fwds = s.fwds;
      room = s.room;
      known = s.known;
      pieces = s.pieces;
    };
    push = λ x s. record {
      marks = s.marks;
      olist = s.olist ++ (x ∷ []);
      emits = s.emits;
      fwds = s.fwds;
      room = s.room;
      known = s.known;
      pieces = s.pieces;
    };
    list = λ s. s.olist;
  }

  abbrev pub list_machine : {H : Type 0} → Lines U H → Machine (Ls U) H
  list_machine L = record {
    store = list_store;
    start =
        λ r s. record { marks = s.marks; olist = []; emits = s.emits; fwds = s.fwds; room = r; known = s.known; pieces = s.pieces };
    eget = λ s x. get_or s.emits x new;
    emark = λ m x s. record {
      marks = s.marks;
      olist = s.olist;
      emits = set s.emits x m;
      fwds = s.fwds;
      room = s.room;
      known = s.known;
      pieces = s.pieces;
    };
    has_fwd = λ s x. get_or s.fwds x false;
    forwarded = λ x s. record {
      marks = s.marks;
      olist = s.olist;
      emits = s.emits;
      fwds = set s.fwds x true;
      room = s.room;
      known = s.known;
      pieces = s.pieces;
    };
    fwd_line = λ s x. put_line other s (L.fwd s.room s.known x);
    alias_line = λ s x. put_line other s (L.alias' s.room s.known x);
    leaf_line = λ s x. put_line other s (L.leaf' s.room s.known x);
    body = λ s x. put_line (defines x) s (L.body' s.room s.known x);
    tags = λ s. tags_of s.pieces;
    held = λ s. L.held' s.known;
    leaving = λ held s. record {
      marks = s.marks;
      olist = s.olist;
      emits = s.emits;
      fwds = s.fwds;
      room = s.room;
      known = L.leaving' held s.known;
      pieces = s.pieces;
    };
  }

  -- n types: nothing marked, nothing written
  unfoldable pub afresh : ℕ → U → Ls U
  afresh n u =
      record { marks = replicate n new; olist = []; emits = replicate n new; fwds = replicate n false; room = 0; known = u; pieces = [] }
