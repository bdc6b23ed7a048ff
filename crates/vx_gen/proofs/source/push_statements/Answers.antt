use Rattle.vx_gen.proofs.Counting.{statement_text, statement_state}
use Rattle.vx_gen.proofs.Pieces.{all_statements_state, all_statements_text}
use Rattle.vx_gen.proofs.source.push_statements.Goals as goal

pub loop-statement-preserved : goal.loop-statement-preserved
loop-statement-preserved c = record {
  text = statement_text _ _ _ _ _ _ _ c.loop-statement-test.true c.in_ok-reached.ensures c.loop-statement.invariant.text;
  state = statement_state _ _ _ _ _ _ _ c.loop-statement-test.true c.in_ok-reached.ensures c.loop-statement.invariant.state;
}

pub returns : goal.returns
returns c = record {
  text = all_statements_text c.loop-statement._statement c.args.count c.loop-statement.reached _ _ c.loop-statement-test.false c.loop-statement.invariant.text;
  state = all_statements_state c.loop-statement._statement c.args.count c.loop-statement.reached _ c.loop-statement-test.false c.loop-statement.invariant.state;
}
