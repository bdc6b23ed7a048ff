use Rattle.std.proofs.Common.{◌≡◌, true, take}
use Rattle.std.specs.List.{list_all}
use Rattle.vx_claims.specs.Accesses.{is_told}
use Rattle.vx_claims.proofs.access.tell.Given as goal

abbrev pub invariant-loop-claim : goal.invariant-loop-claim
invariant-loop-claim l = list_all (is_told l.known) (take l.claim-index l.claims) ≡ true
