-- the blocks so far, and those of the splits that are left
use Rattle.std.proofs.Common.{◌≡◌, ◌++◌, length}
use Rattle.vx_region.specs.Planned.{made_at_splits}
use Rattle.vx_region.proofs.made.push_splits.Given as goal

abbrev pub invariant-splits : goal.invariant-splits
invariant-splits l = l.made ++ made_at_splits l.placed l.rest ≡ l.initial.made ++ made_at_splits l.placed l.splits

abbrev pub decreases-splits : goal.decreases-splits
decreases-splits l = length l.rest
