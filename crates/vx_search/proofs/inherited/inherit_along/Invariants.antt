use Rattle.std.proofs.Common.{◌≡◌, length}
use Rattle.vx_search.proofs.inherited.inherit_along.Given as goal

abbrev pub invariant-loop-place : goal.invariant-loop-place
invariant-loop-place l = length l.claims.items ≡ length l.initial.claims.items
