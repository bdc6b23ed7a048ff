use Rattle.std.proofs.Common.{sym, ◌∙◌}
use Rattle.vx_ast.specs.Tokens.{is_blank}
use Rattle.vx_lex.proofs.Lengths.{passed_none, passed_more, passed_stop, passed_whole}
use Rattle.vx_lex.proofs.byte.blanks_length.Goals as goal

pub loop-place-init : goal.loop-place-init
loop-place-init c = passed_none is_blank c.args.text.now

pub returns-then-not-is_blank-clause-count : goal.returns-then-not-is_blank-clause-count
returns-then-not-is_blank-clause-count c = passed_stop is_blank c.args.text.now c.loop-place.place c.loop-place.invariant c.loop-place-test.true (sym c.is_blank.ensures ∙ c.if-not-is_blank.true)

pub loop-place-preserved : goal.loop-place-preserved
loop-place-preserved c = passed_more is_blank c.args.text.now c.loop-place.place c.loop-place.invariant c.loop-place-test.true (sym c.is_blank.ensures ∙ c.if-not-is_blank.false)

pub returns-clause-count : goal.returns-clause-count
returns-clause-count c = passed_whole is_blank c.args.text.now c.loop-place.place c.loop-place.invariant c.loop-place-test.false
