use Rattle.std.proofs.Common.{◌≡◌, length}
use Rattle.vx_search.proofs.search.claims_of.Given as goal

abbrev pub invariant-loop-block : goal.invariant-loop-block
invariant-loop-block l = length l.claims.items ≡ l.block
