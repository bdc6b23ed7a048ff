use Rattle.std.proofs.Common.{◌∙◌, ap, map, take_all}
use Rattle.vx_lower.specs.Lowered.{global_of}
use Rattle.vx_lower.proofs.Turns.{map_next}
use Rattle.vx_lower.proofs.lowering.lower_globals.Goals as goal

pub loop-global-preserved : goal.loop-global-preserved
loop-global-preserved c =
    map_next global_of c.args.globals.now c.loop-global.global-index _ c.loop-global.all c.push.new.self c.global_of.result c.loop-global-test.true c.loop-global.invariant c.global_of.ensures c.in_ok-push.ensures.ok

pub returns : goal.returns
returns c = c.loop-global.invariant ∙ ap (map global_of) (take_all c.loop-global.global-index c.args.globals.now c.loop-global-test.false)
