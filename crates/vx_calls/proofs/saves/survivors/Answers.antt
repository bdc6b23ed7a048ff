-- Each turn finds one value more, or passes it.
use Rattle.vx_calls.specs.Saves.{survivor}
use Rattle.vx_calls.proofs.Pieces.{piece_more, pieces_all}
use Rattle.vx_calls.proofs.saves.survivors.Goals as goal

pub loop-value-preserved : goal.loop-value-preserved
loop-value-preserved c = piece_more (survivor c.args.living.now c.args.next c.args.written) c.loop-value.found c.args.values.now c.loop-value.value-index c.loop-value.invariant c.push_survivor.new.found _ c.in_ok-push_survivor.ensures c.loop-value-test.true

pub returns : goal.returns
returns c = pieces_all (survivor c.args.living.now c.args.next c.args.written) c.loop-value.found c.args.values.now c.loop-value.value-index c.loop-value.invariant c.loop-value-test.false
