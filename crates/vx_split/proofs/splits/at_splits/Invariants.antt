-- the entries so far, and those of the operations that are left
use Rattle.std.proofs.Common.{◌≡◌, ◌≤◌, ◌-◌, ◌++◌, drop}
use Rattle.vx_dep.specs.Compensation.{splits_from, at_splits_of}
use Rattle.vx_split.proofs.splits.at_splits.Given as goal

abbrev pub invariant-splits : goal.invariant-splits
invariant-splits l = (l.splits.items ++ splits_from l.words l.place (drop l.place l.ops) ≡ at_splits_of l.fn.placed) × (l.place ≤ l.count)

abbrev pub decreases-splits : goal.decreases-splits
decreases-splits l = l.count - l.place
