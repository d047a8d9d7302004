use Rattle.session_cut.proofs.writer.Laws.{kept_long, kept_strings, kept_types, kept_is}
use Rattle.session_cut_marks.specs.mentioned.Names.{zero_bases}
use Rattle.session_cut_marks.proofs.interned.Laws.{from_free}
use Rattle.session_cut_marks.proofs.interned.Right.{table_length, table_bases, table_right}
use Rattle.session_cut.proofs.writer.write.write_kept.Goals as goal

pub returns-then-kept-gt-MOST_BYTES : goal.returns-then-kept-gt-MOST_BYTES
returns-then-kept-gt-MOST_BYTES c = kept_long _ _ _ _ _ c.if-kept-gt-MOST_BYTES.true

pub returns-then-strings-gt-MOST_BYTES_32 : goal.returns-then-strings-gt-MOST_BYTES_32
unfolding zero_bases
returns-then-strings-gt-MOST_BYTES_32 c = kept_strings _ _ _ _ _ c.if-kept-gt-MOST_BYTES.false _ _ _ (from_free _ _ _ _ _ _ _ c.fill_table-strings.ensures) c.if-strings-gt-MOST_BYTES_32.true

pub returns-then-types-gt-MOST_BYTES_64 : goal.returns-then-types-gt-MOST_BYTES_64
unfolding zero_bases
returns-then-types-gt-MOST_BYTES_64 c = kept_types _ _ _ _ _ c.if-kept-gt-MOST_BYTES.false _ _ _ (from_free _ _ _ _ _ _ _ c.fill_table-strings.ensures) c.if-strings-gt-MOST_BYTES_32.false _ c.types_size-types.ensures c.if-types-gt-MOST_BYTES_64.true

pub invariant_of-source : goal.invariant_of-source
unfolding zero_bases
invariant_of-source c = record {
  right = table_right _ _ _ _ c.if-kept-gt-MOST_BYTES.false _ _ _ (from_free _ _ _ _ _ _ _ c.fill_table-strings.ensures) c.if-strings-gt-MOST_BYTES_32.false;
  based = table_bases _ _ _ _ c.if-kept-gt-MOST_BYTES.false _ _ _ (from_free _ _ _ _ _ _ _ c.fill_table-strings.ensures) c.if-strings-gt-MOST_BYTES_32.false;
}

pub write_fitting-requires : goal.write_fitting-requires
unfolding zero_bases
write_fitting-requires c = (c.if-types-gt-MOST_BYTES_64.false, c.if-strings-gt-MOST_BYTES_32.false, c.types_size-types.ensures, table_length _ _ _ _ c.if-kept-gt-MOST_BYTES.false _ _ _ (from_free _ _ _ _ _ _ _ c.fill_table-strings.ensures) c.if-strings-gt-MOST_BYTES_32.false)

pub returns : goal.returns
unfolding zero_bases
returns c = kept_is _ _ _ _ _ c.if-kept-gt-MOST_BYTES.false _ _ _ (from_free _ _ _ _ _ _ _ c.fill_table-strings.ensures) c.if-strings-gt-MOST_BYTES_32.false _ c.types_size-types.ensures c.if-types-gt-MOST_BYTES_64.false _ c.write_fitting.ensures
