use Rattle.std.proofs.Common.{not, ap}
use Rattle.std.proofs.lemmas.Bool.{eq-eqb, ne_eqb}
use Rattle.vx_ast.specs.Tokens.{is_in_line}
use Rattle.vx_lex.proofs.Lengths.{passed_none, passed_more, passed_stop, passed_whole}
use Rattle.vx_lex.proofs.byte.line_length.Goals as goal

pub loop-place-init : goal.loop-place-init
loop-place-init c = passed_none is_in_line c.args.text.now

pub returns-then-byte-eq10-clause-count : goal.returns-then-byte-eq10-clause-count
returns-then-byte-eq10-clause-count c = passed_stop is_in_line c.args.text.now c.loop-place.place c.loop-place.invariant c.loop-place-test.true (ap not (eq-eqb _ _ c.if-byte-eq10.true))

pub loop-place-preserved : goal.loop-place-preserved
loop-place-preserved c = passed_more is_in_line c.args.text.now c.loop-place.place c.loop-place.invariant c.loop-place-test.true (ap not (ne_eqb _ _ c.if-byte-eq10.false))

pub returns-clause-count : goal.returns-clause-count
returns-clause-count c = passed_whole is_in_line c.args.text.now c.loop-place.place c.loop-place.invariant c.loop-place-test.false
