use Rattle.std.proofs.Common.{sym, ◌∙◌}
use Rattle.vx_ast.specs.Tokens.{is_digit}
use Rattle.vx_lex.proofs.Lengths.{passed_none, passed_more, passed_stop, passed_whole}
use Rattle.vx_lex.proofs.byte.digits_length.Goals as goal

pub loop-place-init : goal.loop-place-init
loop-place-init c = passed_none is_digit c.args.text.now

pub returns-then-not-is_digit-clause-count : goal.returns-then-not-is_digit-clause-count
returns-then-not-is_digit-clause-count c = passed_stop is_digit c.args.text.now c.loop-place.place c.loop-place.invariant c.loop-place-test.true (sym c.is_digit.ensures ∙ c.if-not-is_digit.true)

pub loop-place-preserved : goal.loop-place-preserved
loop-place-preserved c = passed_more is_digit c.args.text.now c.loop-place.place c.loop-place.invariant c.loop-place-test.true (sym c.is_digit.ensures ∙ c.if-not-is_digit.false)

pub returns-clause-count : goal.returns-clause-count
returns-clause-count c = passed_whole is_digit c.args.text.now c.loop-place.place c.loop-place.invariant c.loop-place-test.false
