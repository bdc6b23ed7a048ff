use Rattle.std.proofs.Common.{◌≡◌, length}
use Rattle.vx_claims.specs.Sums.{behind}
use Rattle.vx_claims.proofs.sums.behind.Given as goal

abbrev pub invariant-next : goal.invariant-next
invariant-next l = behind l.rest l.value ≡ behind l.facts l.value

abbrev pub decreases-next : goal.decreases-next
decreases-next l = length l.rest
