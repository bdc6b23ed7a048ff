use Rattle.std.proofs.Common.{◌≡◌, true, take}
use Rattle.std.specs.List.{list_all}
use Rattle.vx_flow.specs.Sound.{is_operand}
use Rattle.vx_sound.proofs.named.are_operands.Given as goal

abbrev pub invariant-loop-operand : goal.invariant-loop-operand
invariant-loop-operand l = list_all (is_operand l.banks) (take l.operand-index l.operands) ≡ true
