use Rattle.std.proofs.Common.{◌-◌, length}
use Rattle.vx_names.proofs.Declaring.{Removed}
use Rattle.vx_names.proofs.names.Names.leave.Given as goal

abbrev pub invariant-loop-alloc : goal.invariant-loop-alloc
invariant-loop-alloc l = Removed l.initial.self l.self (length l.initial.self.locals - l.count)

abbrev pub decreases-loop-alloc : goal.decreases-loop-alloc
decreases-loop-alloc l = length l.self.locals
