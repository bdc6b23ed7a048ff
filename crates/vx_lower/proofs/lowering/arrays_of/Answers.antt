use Rattle.std.proofs.Common.{◌∙◌, ap, take_all}
use Rattle.vx_lower.specs.Seen.{arrays_from}
use Rattle.vx_lower.proofs.Bodies.{arrays_step}
use Rattle.vx_lower.proofs.lowering.arrays_of.Goals as goal

pub loop-one-preserved : goal.loop-one-preserved
loop-one-preserved c = arrays_step c.len-place.result c.args.seen.now c.loop-one.one-index _ c.array_of.result c.loop-one.arrays c.push.new.self c.loop-one-test.true c.loop-one.invariant c.len-place.ensures.len c.array_of.ensures c.in_ok-push.ensures.ok

pub returns : goal.returns
returns c = c.loop-one.invariant ∙ ap (arrays_from 0) (take_all c.loop-one.one-index c.args.seen.now c.loop-one-test.false)
