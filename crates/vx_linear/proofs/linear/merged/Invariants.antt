-- what is done, and what is left of both rows, come to the whole
use Rattle.std.proofs.Common.{◌+◌, length}
use Rattle.vx_linear.proofs.Merged.{Merges}
use Rattle.vx_linear.proofs.linear.merged.Given as goal

abbrev pub invariant-merge : goal.invariant-merge
invariant-merge l = Merges l.fn.terms l.fn.onto l.list l.rest l.left

abbrev pub decreases-merge : goal.decreases-merge
decreases-merge l = length l.rest + length l.left
