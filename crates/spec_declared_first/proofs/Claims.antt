-- THE THEOREM: every tag or typedef name in the text is declared above its use, or is the tag of the definition in which it appears. Of the rules: every
-- table that opening lets pass and that is without the builtin name, every list of requests, every room. Assumes nothing.
use mathlib.Core.List.{List}
use lib.ListN.{length-replicate}
use Rattle.spec_c_dumper.specs.rules.Machine.{Req}
use Rattle.spec_c_dumper.specs.rules.Types.{Btf, table_of}
use Rattle.spec_c_dumper.specs.rules.Names.{naming}
use Rattle.spec_c_dumper.specs.names_apart.Naming.{apart, none_shown}
use Rattle.spec_c_dumper.specs.needs.Needs.{WF}
use Rattle.spec_c_dumper.specs.needs.Session.{no_names}
use Rattle.spec_declared_first.specs.Notes.{notes_by}
use Rattle.spec_declared_first.specs.Declared.{NoBuiltin, DeclaredAbove}
use Rattle.spec_declared_first.proofs.Kept.{Sized, Has, naming_keeps, SizedApart, HasApart, apart_keeps}
use Rattle.spec_declared_first.proofs.Session.{notes_declared}

module _ (B : Btf) (nb : NoBuiltin B) (wf : WF (table_of B)) (rs : List Req) where
  -- with the names of the Rust
  pub plain_declared : DeclaredAbove B (notes_by naming B (no_names B) rs)
  plain_declared = notes_declared naming B nb wf (Sized B.type_cnt) Has (naming_keeps B.type_cnt) (no_names B) (length-replicate B.type_cnt 0) rs

  -- with names that cannot collide
  pub apart_declared : DeclaredAbove B (notes_by (apart B) B (none_shown B) rs)
  apart_declared = notes_declared (apart B) B nb wf (SizedApart B.type_cnt) HasApart (apart_keeps B B.type_cnt) (none_shown B) (length-replicate B.type_cnt 0) rs
