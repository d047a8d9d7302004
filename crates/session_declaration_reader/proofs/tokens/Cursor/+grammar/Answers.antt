use Rattle.session_declaration_reader.proofs.tokens.Cursor.+grammar.Goals.{param_list-then-void_before-via-then-void_before, param_list-then-void_before-via-else-void_before+then-void_before-2}
use mathlib.Core.Path.{sym, ◌∙◌}
use Rattle.session_declaration_reader.proofs.grammar.ParseLaws as laws
use Rattle.session_declaration_reader.proofs.tokens.Cursor.+grammar.Goals as goal

pub counts-returns-in_default-clause-read : goal.counts-returns-in_default-clause-read
counts-returns-in_default-clause-read t c = laws.counts_none _ _ _ _ _ _ c.token-t.ensures c.in_default.not-Count _

pub counts-returns-then-not-is_mark-clause-read : goal.counts-returns-then-not-is_mark-clause-read
counts-returns-then-not-is_mark-clause-read t c = laws.counts_open _ _ _ _ _ _ c.token-t.ensures _ c.in-Count.is _ c.token-u.ensures (sym c.is_mark.ensures ∙ c.if-not-is_mark.true) _

pub counts-returns-clause-read : goal.counts-returns-clause-read
counts-returns-clause-read t c = laws.counts_good _ _ _ _ _ _ c.token-t.ensures _ c.in-Count.is _ c.token-u.ensures (sym c.is_mark.ensures ∙ c.if-not-is_mark.false) _ _ c.put_entry.ensures.stored _ c.suffixes.ensures.read

pub declarator-returns-in_err-left-clause-read : goal.declarator-returns-in_err-left-clause-read
declarator-returns-in_err-left-clause-read t c = rw c.from_residual.ensures (laws.decl_zero _ _ _ _ _ _ c.in_err-left.ensures _)

pub declarator-returns-then-is_mark-clause-read : goal.declarator-returns-then-is_mark-clause-read
declarator-returns-then-is_mark-clause-read t c = laws.decl_star _ _ _ _ _ _ _ c.in_ok-left.ensures _ c.token-t.ensures (sym c.is_mark.ensures ∙ c.if-is_mark.true) _ c.starred.ensures.read

pub declarator-returns-then-is_bracketed-clause-read : goal.declarator-returns-then-is_bracketed-clause-read
declarator-returns-then-is_bracketed-clause-read t c = laws.decl_bracket _ _ _ _ _ _ _ c.in_ok-left.ensures _ c.token-t.ensures (sym c.is_mark.ensures ∙ c.if-is_mark.false) _ c.is_bracketed.ensures c.if-is_bracketed.true _ c.in_brackets.ensures.read

pub declarator-returns-then-not-named-clause-read : goal.declarator-returns-then-not-named-clause-read
declarator-returns-then-not-named-clause-read t c = laws.decl_unnamed _ _ _ _ _ _ _ c.in_ok-left.ensures _ c.token-t.ensures (sym c.is_mark.ensures ∙ c.if-is_mark.false) _ c.is_bracketed.ensures c.if-is_bracketed.false c.if-not-named.true _ c.suffixes.ensures.read

pub declarator-returns-then-not-is_word-clause-read : goal.declarator-returns-then-not-is_word-clause-read
declarator-returns-then-not-is_word-clause-read t c = laws.decl_nameless _ _ _ _ _ _ _ c.in_ok-left.ensures _ c.token-t.ensures (sym c.is_mark.ensures ∙ c.if-is_mark.false) _ c.is_bracketed.ensures c.if-is_bracketed.false c.if-not-named.false _ c.is_word.ensures c.if-not-is_word.true _

pub declarator-returns-clause-read : goal.declarator-returns-clause-read
declarator-returns-clause-read t c = laws.decl_name _ _ _ _ _ _ _ c.in_ok-left.ensures _ c.token-t.ensures (sym c.is_mark.ensures ∙ c.if-is_mark.false) _ c.is_bracketed.ensures c.if-is_bracketed.false c.if-not-named.false _ c.is_word.ensures c.if-not-is_word.false _ c.suffixes-2.ensures.read

pub in_brackets-returns-in_err-at-clause-read : goal.in_brackets-returns-in_err-at-clause-read
in_brackets-returns-in_err-at-clause-read t c = rw c.from_residual.ensures (laws.in_fails _ _ _ _ _ _ _ c.in_err-at.ensures.read)

pub in_brackets-returns-then-not-is_mark-clause-read : goal.in_brackets-returns-then-not-is_mark-clause-read
in_brackets-returns-then-not-is_mark-clause-read t c = laws.in_unclosed _ _ _ _ _ _ _ _ _ c.in_ok-at.ensures.read _ c.token-t.ensures (sym c.is_mark.ensures ∙ c.if-not-is_mark.true) _

pub in_brackets-returns-clause-read : goal.in_brackets-returns-clause-read
in_brackets-returns-clause-read t c = laws.in_good _ _ _ _ _ _ _ _ _ c.in_ok-at.ensures.read _ c.token-t.ensures (sym c.is_mark.ensures ∙ c.if-not-is_mark.false) _ c.suffixes.ensures.read

pub param_behind-returns-clause-read : goal.param_behind-returns-clause-read
param_behind-returns-clause-read t c = laws.behind_base _ _ _ _ _ c.args.base _ c.token-t.ensures _ c.is_mark.ensures _ _ c.put_base.ensures.stored _ c.param_end.ensures.read

pub param_end-returns-in_err-left-clause-read : goal.param_end-returns-in_err-left-clause-read
param_end-returns-in_err-left-clause-read t c = rw c.from_residual.ensures (laws.end_zero _ _ _ _ _ c.in_err-left.ensures _)

pub param_end-returns-then-not-is_mark-2-clause-read : goal.param_end-returns-then-not-is_mark-2-clause-read
param_end-returns-then-not-is_mark-2-clause-read t c = laws.end_open _ _ _ _ _ _ c.in_ok-left.ensures _ c.token-t.ensures (sym c.is_mark.ensures ∙ c.if-not-is_mark.true) (sym c.is_mark-then-not-is_mark.ensures ∙ c.if-not-is_mark-2.true) _

pub param_end-returns-then-not-is_mark-clause-read : goal.param_end-returns-then-not-is_mark-clause-read
param_end-returns-then-not-is_mark-clause-read t c = laws.end_close _ _ _ _ _ _ c.in_ok-left.ensures _ c.token-t.ensures (sym c.is_mark.ensures ∙ c.if-not-is_mark.true) (sym c.is_mark-then-not-is_mark.ensures ∙ c.if-not-is_mark-2.false)

pub param_end-returns-then-is_mark-clause-read : goal.param_end-returns-then-is_mark-clause-read
param_end-returns-then-is_mark-clause-read t c = laws.end_dots _ _ _ _ _ _ c.in_ok-left.ensures _ c.token-t.ensures (sym c.is_mark.ensures ∙ c.if-not-is_mark.false) _ c.token-u.ensures (sym c.is_mark-2.ensures ∙ c.if-is_mark.true) _ c.dots_end.ensures.read

pub param_end-returns-clause-read : goal.param_end-returns-clause-read
param_end-returns-clause-read t c = laws.end_list _ _ _ _ _ _ c.in_ok-left.ensures _ c.token-t.ensures (sym c.is_mark.ensures ∙ c.if-not-is_mark.false) _ c.token-u.ensures (sym c.is_mark-2.ensures ∙ c.if-is_mark.false) _ c.param_list.ensures.read

pub param_list-returns-in_err-left-clause-read : goal.param_list-returns-in_err-left-clause-read
param_list-returns-in_err-left-clause-read t c = rw c.from_residual.ensures (laws.list_zero _ _ _ _ _ c.in_err-left.ensures _)

pub param_list-returns-then-void_before-clause-read : goal.param_list-returns-then-void_before-clause-read
param_list-returns-then-void_before-clause-read t c = elim c.then-void_before.branch [
  | param_list-then-void_before-via-then-void_before w ↦ laws.list_void _ _ _ _ _ _ c.in_ok-left.ensures _ c.void_before.ensures w.if-void_before.true _
  | param_list-then-void_before-via-else-void_before+then-void_before-2 w ↦
      laws.list_void_more _ _ _ _ _ _ c.in_ok-left.ensures _ c.void_before.ensures w.if-void_before.false _ w.void_before-else-void_before.ensures w.if-void_before-2.true _
]

pub param_list-returns-in_err-base-clause-read : goal.param_list-returns-in_err-base-clause-read
param_list-returns-in_err-base-clause-read t c = rw c.from_residual-in_err-base.ensures (laws.list_baseless _ _ _ _ _ _ c.in_ok-left.ensures _ c.void_before.ensures c.if-void_before.false _ c.void_before-else-void_before.ensures c.if-void_before-2.false c.in_err-base.ensures _)

pub param_list-returns-in_err-at-clause-read : goal.param_list-returns-in_err-at-clause-read
param_list-returns-in_err-at-clause-read t c = rw c.from_residual-in_err-at.ensures (laws.list_fails _ _ _ _ _ _ c.in_ok-left.ensures _ c.void_before.ensures c.if-void_before.false _ c.void_before-else-void_before.ensures c.if-void_before-2.false _ c.in_ok-base.ensures _ c.in_err-at.ensures.read)

pub param_list-returns-clause-read : goal.param_list-returns-clause-read
param_list-returns-clause-read t c = laws.list_good _ _ _ _ _ _ c.in_ok-left.ensures _ c.void_before.ensures c.if-void_before.false _ c.void_before-else-void_before.ensures c.if-void_before-2.false _ c.in_ok-base.ensures _ _ _ c.in_ok-at.ensures.read _ c.param_behind.ensures.read

pub params-returns-in_err-left-clause-read : goal.params-returns-in_err-left-clause-read
params-returns-in_err-left-clause-read t c = rw c.from_residual.ensures (laws.params_zero _ _ _ _ _ c.in_err-left.ensures _)

pub params-returns-then-is_mark-clause-read : goal.params-returns-then-is_mark-clause-read
params-returns-then-is_mark-clause-read t c = laws.params_close _ _ _ _ _ _ c.in_ok-left.ensures _ c.token-t.ensures (sym c.is_mark.ensures ∙ c.if-is_mark.true) _ _ c.put_entry.ensures.stored

pub params-returns-then-void_before-clause-read : goal.params-returns-then-void_before-clause-read
params-returns-then-void_before-clause-read t c = laws.params_void _ _ _ _ _ _ c.in_ok-left.ensures _ c.token-t.ensures (sym c.is_mark.ensures ∙ c.if-is_mark.false) _ c.void_before.ensures c.if-void_before.true _ c.token-u.ensures _ _ c.put_entry-then-void_before.ensures.stored

pub params-returns-clause-read : goal.params-returns-clause-read
params-returns-clause-read t c = laws.params_list _ _ _ _ _ _ c.in_ok-left.ensures _ c.token-t.ensures (sym c.is_mark.ensures ∙ c.if-is_mark.false) _ c.void_before.ensures c.if-void_before.false _ _ c.put_entry-2.ensures.stored _ c.param_list.ensures.read

pub protos-returns-in_err-at-clause-read : goal.protos-returns-in_err-at-clause-read
protos-returns-in_err-at-clause-read t c = rw c.from_residual.ensures (laws.protos_fail _ _ _ _ _ _ c.in_err-at.ensures.read)

pub protos-returns-clause-read : goal.protos-returns-clause-read
protos-returns-clause-read t c = laws.protos_good _ _ _ _ _ _ _ _ c.in_ok-at.ensures.read _ c.suffixes.ensures.read

pub starred-returns-in_err-q-clause-read : goal.starred-returns-in_err-q-clause-read
starred-returns-in_err-q-clause-read t c = rw c.from_residual.ensures (laws.star_twice _ _ _ _ _ _ c.in_err-q.ensures _)

pub starred-returns-in_err-end-clause-read : goal.starred-returns-in_err-end-clause-read
starred-returns-in_err-end-clause-read t c = rw c.from_residual-in_err-end.ensures (laws.star_fails _ _ _ _ _ _ _ c.in_ok-q.ensures _ c.in_err-end.ensures.read)

pub starred-returns-clause-read : goal.starred-returns-clause-read
starred-returns-clause-read t c = laws.star_good _ _ _ _ _ _ _ c.in_ok-q.ensures _ _ _ c.in_ok-end.ensures.read _ _ c.put_quals.ensures.stored _ _ c.put_entry.ensures.stored

pub suffixes-returns-in_err-left-clause-read : goal.suffixes-returns-in_err-left-clause-read
suffixes-returns-in_err-left-clause-read t c = rw c.from_residual.ensures (laws.suffix_zero _ _ _ _ _ c.in_err-left.ensures _)

pub suffixes-returns-then-is_mark-clause-read : goal.suffixes-returns-then-is_mark-clause-read
suffixes-returns-then-is_mark-clause-read t c = laws.suffix_count _ _ _ _ _ _ c.in_ok-left.ensures _ c.token-t.ensures (sym c.is_mark.ensures ∙ c.if-is_mark.true) _ c.counts.ensures.read

pub suffixes-returns-then-is_mark-2-clause-read : goal.suffixes-returns-then-is_mark-2-clause-read
suffixes-returns-then-is_mark-2-clause-read t c = laws.suffix_proto _ _ _ _ _ _ c.in_ok-left.ensures _ c.token-t.ensures (sym c.is_mark.ensures ∙ c.if-is_mark.false) (sym c.is_mark-2.ensures ∙ c.if-is_mark-2.true) _ c.protos.ensures.read

pub suffixes-returns-clause-read : goal.suffixes-returns-clause-read
suffixes-returns-clause-read t c = laws.suffix_none _ _ _ _ _ _ c.in_ok-left.ensures _ c.token-t.ensures (sym c.is_mark.ensures ∙ c.if-is_mark.false) (sym c.is_mark-2.ensures ∙ c.if-is_mark-2.false)
