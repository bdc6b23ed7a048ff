use Rattle.vx_gen.proofs.Counting.{call_text}
use Rattle.vx_gen.proofs.Pieces.{all_calls}
use Rattle.vx_gen.proofs.source.push_calls.Goals as goal

pub loop-number-preserved : goal.loop-number-preserved
loop-number-preserved c = call_text c.loop-number.number c.args.count c.loop-number.out.items _ _ c.loop-number-test.true c.in_ok-push_call.ensures c.loop-number.invariant

pub returns : goal.returns
returns c = all_calls c.loop-number.number c.args.count c.loop-number.out.items _ c.loop-number-test.false c.loop-number.invariant
