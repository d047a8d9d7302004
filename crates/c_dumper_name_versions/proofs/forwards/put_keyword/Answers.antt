use Rattle.c_dumper_name_versions.proofs.forwards.Forwards.{put_struct, put_union_struct, put_union}
use mathlib.Core.List.{[]}
use Rattle.c_dumper_name_versions.proofs.forwards.put_keyword.Goals as goal

pub returns-then-is_struct : goal.returns-then-is_struct
returns-then-is_struct c = put_struct _ _ _ _ c.args.b [] [] _ c.if-is_struct.true c.put_word.ensures

pub returns-then-b : goal.returns-then-b
returns-then-b c = put_union_struct _ _ _ _ c.args.b [] [] _ c.if-is_struct.false c.if-b.true c.put_word-then-b.ensures

pub returns : goal.returns
returns c = put_union _ _ _ _ c.args.b [] [] _ c.if-is_struct.false c.if-b.false c.put_word-2.ensures
