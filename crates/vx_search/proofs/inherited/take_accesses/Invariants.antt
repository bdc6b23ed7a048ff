use Rattle.std.proofs.Common.{◌≡◌, length}
use Rattle.vx_search.proofs.inherited.take_accesses.Given as goal

abbrev pub invariant-loop-access : goal.invariant-loop-access
invariant-loop-access l = length l.claims.items ≡ length l.initial.claims.items
