-- What a key stands for: the list of its space and its name, as `key_of` has it.
use Rattle.std.specs.Prelude.{ℕ, List, Option, None, Some}
use Rattle.btf_open_names.specs.declared.keys.keys.Space.{Space}
use Rattle.btf_open_names.specs.declared.keys.keys.Space.TheVariants.{Tag, Identifier}
use Rattle.btf_open_names.specs.declared.keys.keys.Key.{Key}
use Rattle.btf_open_names.specs.name_classes.Classes.{key_of}

-- the number of a space, and 2 where there is none
abbrev pub space_number : Space → ℕ
space_number Tag = 0
space_number Identifier = 1

abbrev pub space_code : Option Space → ℕ
space_code None = 2
space_code (Some space) = space_number space

abbrev pub key_list : List ℕ → Key → List ℕ
key_list s key = key_of s (space_number key.space) key.name

-- of a holder without a space there is no name
abbrev pub loaded : List ℕ → Option Key → List ℕ
loaded s None = key_of s 2 0
loaded s (Some key) = key_list s key
