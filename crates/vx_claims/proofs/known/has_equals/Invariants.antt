use Rattle.std.proofs.Common.{◌≡◌, drop}
use Rattle.vx_claims.specs.Facts.{has_equals}
use Rattle.vx_claims.proofs.known.has_equals.Given as goal

abbrev pub invariant-loop-fact : goal.invariant-loop-fact
invariant-loop-fact l = has_equals (drop l.fact-index l.facts) l.value l.code l.left l.right ≡ has_equals l.facts l.value l.code l.left l.right
