use Rattle.std.proofs.Common.{◌-◌}
use Rattle.vx_select.specs.Values.{either_writing, Listing}
use Rattle.vx_select.proofs.written.written.Given as goal

abbrev pub invariant-values : goal.invariant-values
invariant-values l = Listing (either_writing l.left l.right) l.count l.from l.values.items

abbrev pub decreases-values : goal.decreases-values
decreases-values l = l.count - l.from
