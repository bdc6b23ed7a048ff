-- the greatest so far, and that of what is left
use Rattle.std.proofs.Common.{◌≡◌, max, length}
use Rattle.vx_dep.specs.Compensation.{greatest, all_left_at}
use Rattle.vx_region.proofs.waits.drain_of.Given as goal

abbrev pub invariant-count : goal.invariant-count
invariant-count l = max l.drain (greatest (all_left_at l.fn.machine l.fn.end l.words_left l.ops_left)) ≡ greatest (all_left_at l.fn.machine l.fn.end l.fn.words l.fn.ops)

abbrev pub decreases-count : goal.decreases-count
decreases-count l = length l.ops_left
