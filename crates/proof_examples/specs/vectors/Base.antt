-- Written by tools/vectors.py. What the vectors are made of: a session beside the Rust's answers to it.
use Rattle.std.specs.Prelude.{ℕ, Bool, List, [], ◌∷◌}
use Prim.Native.String.{String}
use Rattle.spec_bytes.specs.text.Text.{ascii}
use Rattle.spec_c_dumper.specs.rules.Machine.{Req}
use Rattle.spec_c_dumper.specs.rules.Types.{Member, Param, Enumerator, BtfType}
use Rattle.spec_c_dumper.specs.rules.Listed.{listed}
use Rattle.spec_c_dumper.specs.needs.Session.{Dump, dump, dump_types}

abbrev pub member : String → ℕ → ℕ → ℕ → Member
member name type_id bit_offset bit_size = record { name = ascii name; type_id = type_id; bit_offset = bit_offset; bit_size = bit_size }

abbrev pub param : String → ℕ → Param
param name type_id = record { name = ascii name; type_id = type_id }

abbrev pub value : String → ℕ → Enumerator
value name bits = record { name = ascii name; value = bits }

-- what the rules give, and what the Rust gave
pub record Vector : Type 0 where
  pub is : Dump
  pub wanted : Dump

-- pointer size, union_as_struct, types; requests (`one`: room of the text slice, id; `all`: room); number and value of each answer, and the
-- text after the last
abbrev pub session : ℕ → Bool → List BtfType → List Req → List (ℕ × ℕ) → String → Vector
session ptr_sz union_as_struct types requests answers text = record {
  is = dump_types (listed ptr_sz union_as_struct types) requests;
  wanted = dump answers (ascii text);
}

abbrev pub all_given : List Vector → List Dump
all_given [] = []
all_given (v ∷ vs) = v.is ∷ all_given vs

abbrev pub all_wanted : List Vector → List Dump
all_wanted [] = []
all_wanted (v ∷ vs) = v.wanted ∷ all_wanted vs
