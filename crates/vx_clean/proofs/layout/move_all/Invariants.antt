use Rattle.std.proofs.Common.{◌≡◌, length}
use Rattle.vx_clean.proofs.layout.move_all.Given as goal

abbrev pub invariant-loop-block : goal.invariant-loop-block
invariant-loop-block l = length l.to.items ≡ length l.initial.to.items
