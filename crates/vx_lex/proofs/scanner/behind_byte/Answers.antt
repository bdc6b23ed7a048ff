use Rattle.std.proofs.Common.{ap, ◌∙◌, sym, ◌+◌, arith}
use Rattle.vx_lex.proofs.Places.{line_feed, line_on, column_feed, column_on, line_small, column_small}
use Rattle.vx_lex.proofs.scanner.behind_byte.Goals as goal

pub overflow_add-result-then-bytes-spot-eq10 : goal.overflow_add-result-then-bytes-spot-eq10
overflow_add-result-then-bytes-spot-eq10 c = omega (arith, c.requires.spot.line, line_small c.args.bytes.now c.args.spot.place)

pub overflow_add-result-else-bytes-spot-eq10-2 : goal.overflow_add-result-else-bytes-spot-eq10-2
overflow_add-result-else-bytes-spot-eq10-2 c = omega (arith, c.requires.spot.column, column_small c.args.bytes.now c.args.spot.place)

pub returns-then-bytes-spot-eq10-clause-spot : goal.returns-then-bytes-spot-eq10-clause-spot
returns-then-bytes-spot-eq10-clause-spot c = record {
  line = ap (λ k. k + 1) c.requires.spot.line ∙ sym (line_feed c.args.bytes.now c.args.spot.place c.requires.within c.if-bytes-spot-eq10.true);
  column = sym (column_feed c.args.bytes.now c.args.spot.place c.requires.within c.if-bytes-spot-eq10.true);
}

pub returns-else-bytes-spot-eq10-clause-spot : goal.returns-else-bytes-spot-eq10-clause-spot
returns-else-bytes-spot-eq10-clause-spot c = record {
  line = c.requires.spot.line ∙ sym (line_on c.args.bytes.now c.args.spot.place c.requires.within c.if-bytes-spot-eq10.false);
  column = ap (λ k. k + 1) c.requires.spot.column ∙ sym (column_on c.args.bytes.now c.args.spot.place c.requires.within c.if-bytes-spot-eq10.false);
}
