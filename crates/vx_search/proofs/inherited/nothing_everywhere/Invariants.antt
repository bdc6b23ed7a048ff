use Rattle.std.proofs.Common.{◌≡◌, length}
use Rattle.vx_search.proofs.inherited.nothing_everywhere.Given as goal

abbrev pub invariant-loop-block : goal.invariant-loop-block
invariant-loop-block l = length l.ends.items ≡ l._block
