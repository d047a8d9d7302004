-- Document 01's table of refusals is what the calls and the rules refuse by: statements only. proofs/Table.antt has the proofs; they assume
-- nothing.
use Rattle.std.specs.Prelude.{ℕ, zero, suc, ◌+◌, ◌*◌, ◌<◌, ◌≡◌, Bool, true, false, ◌&&◌, ◌⊎◌, length, ltb, leb, Ok}
use mathlib.Core.List.{List, [], ◌∷◌, Memᴰ}
use Rattle.spec_bytes.specs.text.Text.{Text, bytes}
use Rattle.spec_bytes.specs.text.Placed.{stopped, put_text}
use Rattle.spec_c_dumper.specs.rules.Order.{Table, Store, refused, meet, order}
use Rattle.spec_c_dumper.specs.rules.Machine.{Machine, Out, stuck, mention, allowed, emit}
use Rattle.spec_c_dumper.specs.rules.Writer.{Ask, got, no, checked, stop}
use Rattle.spec_c_dumper.specs.rules.Types.{Name, Member, Btf}
use Rattle.spec_c_dumper.specs.rules.Names.{Naming}
use Rattle.spec_c_dumper.specs.rules.Layout.{get_size_of, get_align_of, off_align, is_struct_packed}
use Rattle.spec_c_dumper.specs.rules.Placing.{Extent, extent_of, no_extent, union_align, size_fits, measured}
use Rattle.spec_c_dumper.specs.rules.Decl.{Entry, chain_of, emit_type_decl, emit_type_chain, emit_composite_def}
use Rattle.spec_c_dumper.specs.ceiling.Ceiling.{halted, most, order_within}
use Rattle.spec_opening.specs.Causes.{causes}
use Rattle.spec_opening.specs.Table.{types_of}
use Rattle.spec_session.specs.session.Answers.{Answer, number_of, answer_of}
use Rattle.spec_session.specs.declared.session.Session.{Session}
use Rattle.spec_session.specs.session.Turns.{Call, is_current}
use Rattle.spec_session.specs.calls.Refusals.{RefusalRow, pointer_size, section_over, bad_header, bad_strings, bad_record, bad_reference}
use Rattle.spec_session.specs.calls.Refusals.{prototype, loop, work_short, too_deep, cycle, nameless, align_zero, overflow, text_full}
use Rattle.spec_session.specs.calls.Refusals.{misplaced, ceiling_passed, number, refusal}
use Rattle.spec_session.specs.calls.Calls.{open_call, type_call, types_call}

-- "Cause, tested in this order at opening"
abbrev pub opening_rows : List RefusalRow
opening_rows = pointer_size ∷ section_over ∷ bad_header ∷ bad_strings ∷ bad_record ∷ bad_reference ∷ prototype ∷ loop ∷ work_short ∷ []

-- the refusals that close the session
abbrev pub closing_rows : List RefusalRow
closing_rows = too_deep ∷ cycle ∷ nameless ∷ align_zero ∷ overflow ∷ text_full ∷ misplaced ∷ []

-- the refusal of the row beside the first cause that holds; `none` where none does
unfoldable pub by_row : ℕ → Answer → List Bool → List RefusalRow → Answer
by_row len none [] rows = none
by_row len none (b ∷ l) [] = none
by_row len none (true ∷ l) (c ∷ rows) = refusal c len
by_row len none (false ∷ l) (c ∷ rows) = by_row len none l rows

-- accepted, or refused by a row of these, with the text length that is left
abbrev pub InTable : List RefusalRow → Call → Type 0
InTable rows d = (number_of d.answer ≡ 0) ⊎ ((c : RefusalRow) × Memᴰ c rows × (d.answer ≡ refusal c d.session.text_len))

-- the calls, for all inputs; 11 and 10 stand in specs/Calls by their rows
pub record CallsByTable : Type 0 where
  pub opening : (s : Session) (section work text : List ℕ) (pointer modes : ℕ)
      → (open_call s section work text pointer modes).answer
      ≡ by_row s.text_len (answer_of 0 (types_of section)) (causes pointer section (length work)) opening_rows
  pub type : (s : Session) (section work text : List ℕ) (id : ℕ) → is_current s (length section) (length work) (length text) ≡ true
      → id < s.types → InTable closing_rows (type_call s section work text id)
  pub types : (s : Session) (section work text : List ℕ) → is_current s (length section) (length work) (length text) ≡ true
      → InTable closing_rows (types_call s section work text)

-- the rules: the clause that meets each row
pub record RulesByTable : Type 1 where
  -- 12: where none is left of the calls that may be open: of ordering, of emission, of get_size_of, of get_align_of, and of the three of a
  -- line together; or of the entries of a chain
  pub deep_order : (St : Type 0) (K : Store St) (T : Table) (s : St) (x : ℕ) (weak : Bool)
      → order K zero T s x weak ≡ refused (number too_deep)
  pub deep_emit : (M H : Type 0) (X : Machine M H) (T : Table) (s : M) (x cont : ℕ)
      → emit X T zero s x cont ≡ stuck (X.held s) (number too_deep)
  pub deep_size : (B : Btf) (id : ℕ) → get_size_of zero B id ≡ no (number too_deep)
  pub deep_align : (B : Btf) (id : ℕ) → get_align_of zero B id ≡ no (number too_deep)
  pub deep_decl : (U : Type 0) (N : Naming U) (B : Btf) (id : ℕ) (fname : Name) (lvl : ℕ)
      → emit_type_decl N B zero id fname lvl ≡ stop (number too_deep)
  pub deep_chain : (U : Type 0) (N : Naming U) (B : Btf) (c : List Entry) (fname : Name) (lvl : ℕ)
      → emit_type_chain N B zero c fname lvl ≡ stop (number too_deep)
  pub deep_body : (U : Type 0) (N : Naming U) (B : Btf) (id : ℕ) (is_struct : Bool) (name : Name) (sz : ℕ) (ms : List Member) (lvl : ℕ)
      → emit_composite_def N B zero id is_struct name sz ms lvl ≡ stop (number too_deep)
  pub long_chain : (B : Btf) (id : ℕ) (c : List Entry) → chain_of zero B id c ≡ no (number too_deep)
  -- 13: what is in progress is met again
  pub cycle_order : (St : Type 0) (s : St) → meet false s ≡ refused (number cycle)
  pub cycle_emit : (M H : Type 0) (X : Machine M H) (T : Table) (x : ℕ) (s : M)
      → mention X T false false x s ≡ stuck (X.held s) (number cycle)
  -- 14: a type without a name at the top
  pub no_name : (M H : Type 0) (X : Machine M H) (T : Table) (rec : M → ℕ → ℕ → Out M H) (s : M) (x cont : ℕ)
      → allowed X T rec s x cont true ≡ stuck (X.held s) (number nameless)
  -- 15: the packed test, of a member
  pub align_zero_lem : (bit_offset : ℕ) (rest : Ask Bool) → off_align zero bit_offset rest ≡ no (number align_zero)
  -- 16: a number over 32 bits
  pub overflows : (n : ℕ) → ltb n 4294967296 ≡ false → checked n ≡ no (number overflow)
  -- 17: a text that does not fit behind a place inside the slice
  pub full : (t : List ℕ) (at : ℕ) (x : Text) → leb at (length t) ≡ true → leb (at + length (bytes x)) (length t) ≡ false
      → put_text t (Ok at) x ≡ stopped (number text_full)
  -- 18: placing mode, after all that is asked for was got
  pub not_placed : (B : Btf) (is_struct : Bool) (sz : ℕ) (ms : List Member) (a : ℕ) (packed : Bool) (x : Extent) (bits : ℕ)
      → union_align B is_struct ms ≡ got a
      → is_struct_packed B is_struct sz ms ≡ got packed → extent_of B is_struct packed no_extent ms ≡ got x
      → checked (8 * sz) ≡ got bits
      → (x.fits && size_fits is_struct a x.last bits) ≡ false → measured B is_struct sz ms ≡ no (number misplaced)
  -- 22: one more call would pass the ceiling
  pub ceiling : (St : Type 0) (K : Store St) (c n : ℕ) (T : Table) (s : St) (x : ℕ) (weak : Bool) (k : ℕ) → ltb k c ≡ false
      → order_within K (most c) (suc n) T s x weak k ≡ halted (number ceiling_passed) k
