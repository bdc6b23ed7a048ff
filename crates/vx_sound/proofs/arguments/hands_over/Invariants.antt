use Rattle.std.proofs.Common.{◌≡◌, drop}
use Rattle.vx_flow.specs.Sound.{hands_over}
use Rattle.vx_sound.proofs.arguments.hands_over.Given as goal

abbrev pub invariant-loop-argument : goal.invariant-loop-argument
invariant-loop-argument l = hands_over l.graph l.called l.arguments l.parameters ≡ hands_over l.graph l.called (drop l.argument-index l.arguments) l.left
