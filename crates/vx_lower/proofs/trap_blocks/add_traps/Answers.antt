use Rattle.std.proofs.Common.{◌∙◌, ◌++◌, ap, map, take_all}
use Rattle.vx_lower.specs.Finished.{trap_block}
use Rattle.vx_lower.proofs.Turns.{map_behind}
use Rattle.vx_lower.proofs.trap_blocks.add_traps.Goals as goal

pub loop-kind-preserved : goal.loop-kind-preserved
loop-kind-preserved c =
    map_behind trap_block c.args.blocks.now.items c.args.kinds.now c.loop-kind.kind-index _ c.loop-kind.blocks.items c.push.new.self.items c.empty.result c.loop-kind-test.true c.loop-kind.invariant c.empty.ensures c.in_ok-push.ensures.items

pub returns : goal.returns
returns c = c.loop-kind.invariant ∙ ap (λ kinds. c.args.blocks.now.items ++ map trap_block kinds) (take_all c.loop-kind.kind-index c.args.kinds.now c.loop-kind-test.false)
