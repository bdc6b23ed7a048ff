use Rattle.std.proofs.Common.{◌≡◌, ◌++◌, take}
use Rattle.vx_claims.proofs.access.append_known.Given as goal

abbrev pub invariant-loop-access : goal.invariant-loop-access
invariant-loop-access l = l.list ≡ l.initial.list ++ take l.access-index l.known
