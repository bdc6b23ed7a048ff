use Rattle.std.proofs.Common.{◌≡◌, ◌++◌, take}
use Rattle.std.specs.List.{flat_map}
use Rattle.vx_flow.specs.Effects.{value_in}
use Rattle.vx_inline.proofs.names.push_operands.Given as goal

abbrev pub invariant-loop-operand : goal.invariant-loop-operand
invariant-loop-operand l = l.values ≡ l.initial.values ++ flat_map value_in (take l.operand-index l.operands)
