-- Samples of document 01 as whole programs: each section beside what the program prints of it. That they are equal is `programs_hold` of
-- proofs/Samples.
use Rattle.std.specs.Prelude.{List, [], ◌∷◌}
use Rattle.spec_c_dumper.specs.rules.Samples.{Sample, gives, three_of_x, node, itself, behind_array}
use Rattle.spec_c_dumper.specs.rules.Listed.{with_strong_arrays}
use Rattle.spec_c_dumper.specs.needs.Session.{program}

abbrev pub programs : List Sample
programs =
    gives (program three_of_x) "typedef int x;\n\ntypedef int x___2;\n\ntypedef int x___3;\n\n"
    ∷ gives (program itself) "refused 13\n"
    ∷ gives (program node) "struct node {\n\tstruct node *next;\n\tint v;\n};\n\n"
    ∷ gives (program behind_array) "struct s {\n\tstruct s (*p)[2];\n};\n\n"
    ∷ gives (program (with_strong_arrays behind_array)) "refused 13\n"
    ∷ []
