use Rattle.std.proofs.Common.{◌≡◌, true, not, take}
use Rattle.std.specs.List.{list_all}
use Rattle.vx_flow.specs.Sound.{is_value}
use Rattle.vx_sound.proofs.soundness.are_not_held.Given as goal

abbrev pub invariant-loop-operand : goal.invariant-loop-operand
invariant-loop-operand l = list_all (λ x. not (is_value l.value x)) (take l.operand-index l.operands) ≡ true
