use Rattle.std.proofs.Common.{◌≡◌, false, take}
use Rattle.std.specs.List.{list_any}
use Rattle.vx_claims.specs.Claims.{says_never}
use Rattle.vx_claims.proofs.known.is_never.Given as goal

abbrev pub invariant-loop-fact : goal.invariant-loop-fact
invariant-loop-fact l = list_any says_never (take l.fact-index l.facts) ≡ false
