use Rattle.std.proofs.Common.{refl}
use Rattle.vx_sound.specs.Origins.{hands_shown}
use Rattle.vx_sound.proofs.Pairs.{pairs_lack}
use Rattle.vx_sound.proofs.arguments.hands_shown.Goals as goal

pub returns-in-empty : goal.returns-in-empty
returns-in-empty c =
    pairs_lack (hands_shown c.args.origins.now) (λ x xs. refl) c.args.arguments.now c.loop-argument.argument-index c.loop-argument.left.now _ c.loop-argument.invariant c.loop-argument-test.true c.in-empty.len_below
