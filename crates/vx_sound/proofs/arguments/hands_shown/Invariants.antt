use Rattle.std.proofs.Common.{◌≡◌, drop}
use Rattle.vx_sound.specs.Origins.{hands_shown}
use Rattle.vx_sound.proofs.arguments.hands_shown.Given as goal

abbrev pub invariant-loop-argument : goal.invariant-loop-argument
invariant-loop-argument l = hands_shown l.origins l.arguments l.bases ≡ hands_shown l.origins (drop l.argument-index l.arguments) l.left
