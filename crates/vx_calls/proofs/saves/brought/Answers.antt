-- Each turn finds one value more, or passes it.
use Rattle.vx_calls.specs.Saves.{arrival}
use Rattle.vx_calls.proofs.Pieces.{piece_more, pieces_all}
use Rattle.vx_calls.proofs.saves.brought.Goals as goal

pub loop-value-preserved : goal.loop-value-preserved
loop-value-preserved c = piece_more (arrival c.args.living.now c.args.entry c.args.parameters.now) c.loop-value.found c.args.values.now c.loop-value.value-index c.loop-value.invariant c.push_arrival.new.found _ c.in_ok-push_arrival.ensures c.loop-value-test.true

pub returns : goal.returns
returns c = pieces_all (arrival c.args.living.now c.args.entry c.args.parameters.now) c.loop-value.found c.args.values.now c.loop-value.value-index c.loop-value.invariant c.loop-value-test.false
