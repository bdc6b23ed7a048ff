-- none of those passed writes it
use Rattle.std.proofs.Common.{◌≡◌}
use Rattle.vx_linear.specs.Writers.{writer}
use Rattle.vx_bug.proofs.values.writer.Given as goal

abbrev pub invariant-rise : goal.invariant-rise
invariant-rise l = writer l.ops l.above l.value ≡ writer l.ops l.place l.value

abbrev pub decreases-rise : goal.decreases-rise
decreases-rise l = l.above
