use Rattle.std.proofs.Common.{◌≡◌, true, take}
use Rattle.std.specs.List.{list_all}
use Rattle.vx_claims.specs.Claims.{gives}
use Rattle.vx_claims.proofs.known.give.Given as goal

abbrev pub invariant-loop-claim : goal.invariant-loop-claim
invariant-loop-claim l = list_all (gives l.facts) (take l.claim-index l.claims) ≡ true
