use Rattle.std.proofs.Common.{◌≡◌, take, true}
use Rattle.std.specs.List.{list_all}
use Rattle.vx_fold.specs.Thinning.{are_read, unread_of}
use Rattle.vx_flow.specs.Effects.{value_in}
use Rattle.vx_fold.proofs.reads.are_all_read.Given as goal

abbrev pub invariant-loop-operand : goal.invariant-loop-operand
invariant-loop-operand l = list_all (λ x. are_read (unread_of l.needed) (value_in x)) (take l.operand-index l.operands) ≡ true
