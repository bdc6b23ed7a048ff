use Rattle.std.proofs.Common.{◌≡◌, drop}
use Rattle.vx_claims.specs.Facts.{found}
use Rattle.vx_claims.proofs.known.found.Given as goal

abbrev pub invariant-loop-fact : goal.invariant-loop-fact
invariant-loop-fact l = found (drop l.fact-index l.facts) l.code l.left l.right ≡ found l.facts l.code l.left l.right
