use Rattle.std.proofs.Common.{◌≡◌, drop}
use Rattle.vx_claims.specs.Sums.{held_as_sum}
use Rattle.vx_claims.proofs.sums.held_as_sum.Given as goal

abbrev pub invariant-loop-fact : goal.invariant-loop-fact
invariant-loop-fact l = held_as_sum (drop l.fact-index l.facts) l.value ≡ held_as_sum l.facts l.value
