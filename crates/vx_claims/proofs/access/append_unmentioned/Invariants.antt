use Rattle.std.proofs.Common.{◌≡◌, ◌++◌, drop}
use Rattle.vx_claims.specs.Accesses.{unmentioned}
use Rattle.vx_claims.proofs.access.append_unmentioned.Given as goal

abbrev pub invariant-loop-access : goal.invariant-loop-access
invariant-loop-access l = l.list ++ unmentioned l.value (drop l.access-index l.known) ≡ l.initial.list ++ unmentioned l.value l.known
