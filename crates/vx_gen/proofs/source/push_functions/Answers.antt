use Rattle.vx_gen.proofs.Counting.{function_text, function_state}
use Rattle.vx_gen.proofs.Pieces.{all_functions_state, all_functions_text}
use Rattle.vx_gen.proofs.source.push_functions.Goals as goal

pub loop-number-preserved : goal.loop-number-preserved
loop-number-preserved c = record {
  text = function_text _ _ _ _ _ _ _ _ _ c.loop-number-test.true c.count_of.ensures c.in_ok-reached.ensures c.loop-number.invariant.text;
  state = function_state _ _ _ _ _ _ _ _ _ c.loop-number-test.true c.count_of.ensures c.in_ok-reached.ensures c.loop-number.invariant.state;
}

pub returns : goal.returns
returns c = record {
  text = all_functions_text c.args.size c.loop-number.number c.args.count c.loop-number.reached _ _ c.loop-number-test.false c.loop-number.invariant.text;
  state = all_functions_state c.args.size c.loop-number.number c.args.count c.loop-number.reached _ c.loop-number-test.false c.loop-number.invariant.state;
}
