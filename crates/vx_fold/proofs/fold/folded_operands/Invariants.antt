use Rattle.std.proofs.Common.{◌≡◌, map, take}
use Rattle.vx_fold.specs.Folding.{folded, numbers_of}
use Rattle.vx_fold.proofs.fold.folded_operands.Given as goal

abbrev pub invariant-loop-operand : goal.invariant-loop-operand
invariant-loop-operand l = l.new ≡ map (folded (numbers_of l.numbers)) (take l.operand-index l.operands)
