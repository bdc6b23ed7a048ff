use Rattle.std.proofs.Common.{◌≡◌, drop}
use Rattle.vx_claims.specs.Facts.{decided_by}
use Rattle.vx_claims.proofs.known.decided_by.Given as goal

abbrev pub invariant-loop-fact : goal.invariant-loop-fact
invariant-loop-fact l = decided_by l.facts l.test (drop l.fact-index l.rest) ≡ decided_by l.facts l.test l.rest
