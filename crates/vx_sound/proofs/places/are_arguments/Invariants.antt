use Rattle.std.proofs.Common.{◌≡◌, true, take}
use Rattle.std.specs.List.{list_all}
use Rattle.vx_sound.specs.Origins.{is_argument}
use Rattle.vx_sound.proofs.places.are_arguments.Given as goal

abbrev pub invariant-loop-operand : goal.invariant-loop-operand
invariant-loop-operand l = list_all (is_argument l.origins l.graph) (take l.operand-index l.operands) ≡ true
