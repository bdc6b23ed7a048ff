-- what is left to do gives the rest of the whole
use Rattle.std.proofs.Common.{◌≡◌, length}
use Rattle.vx_linear.specs.Linear.{with_terms}
use Rattle.vx_linear.proofs.linear.inserted.Given as goal

abbrev pub invariant-insert : goal.invariant-insert
invariant-insert l = with_terms l.rest l.list ≡ with_terms l.fn.terms l.fn.onto

abbrev pub decreases-insert : goal.decreases-insert
decreases-insert l = length l.rest
