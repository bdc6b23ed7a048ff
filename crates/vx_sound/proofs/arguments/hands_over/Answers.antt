use Rattle.std.proofs.Common.{refl}
use Rattle.vx_flow.specs.Sound.{hands_over}
use Rattle.vx_sound.proofs.Pairs.{pairs_lack}
use Rattle.vx_sound.proofs.arguments.hands_over.Goals as goal

pub returns-in-empty : goal.returns-in-empty
returns-in-empty c =
    pairs_lack (hands_over c.args.graph.now c.args.called.now) (λ x xs. refl) c.args.arguments.now c.loop-argument.argument-index c.loop-argument.left.now _ c.loop-argument.invariant c.loop-argument-test.true c.in-empty.len_below
