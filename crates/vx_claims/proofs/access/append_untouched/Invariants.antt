use Rattle.std.proofs.Common.{◌≡◌, ◌++◌, drop}
use Rattle.vx_claims.specs.Accesses.{untouched}
use Rattle.vx_claims.proofs.access.append_untouched.Given as goal

abbrev pub invariant-loop-access : goal.invariant-loop-access
invariant-loop-access l = l.list ++ untouched l.arrays l.array (drop l.access-index l.known) ≡ l.initial.list ++ untouched l.arrays l.array l.known
