-- The samples hold of the definitions.
use mathlib.Core.Path.{◌≡◌, refl}
use Rattle.spec_c_dumper.specs.rules.Writer.{ask_then, checked}
use Rattle.spec_c_dumper.specs.rules.Layout.{octets, size_of, get_size_of, end_of}
use Rattle.session_field_at_bit.specs.step.Path.{shape_of, is_composite, passed, behind, covers, entered, tried, placed, step_in, full, onward, path_from, some_entry, field_path}
use Rattle.session_field_at_bit.specs.field.Samples.{samples, all_given, all_wanted}

pub samples_hold : all_given samples ≡ all_wanted samples
unfolding ask_then checked octets size_of get_size_of end_of shape_of is_composite passed behind covers entered tried placed step_in full onward path_from
    some_entry field_path
samples_hold = refl
