-- what is left to do gives the rest of the whole
use Rattle.std.proofs.Common.{◌≡◌, ◌++◌, length}
use Rattle.vx_linear.specs.Linear.{with_term}
use Rattle.vx_linear.proofs.linear.with_term.Given as goal

abbrev pub invariant-insert : goal.invariant-insert
invariant-insert l = l.list ++ with_term l.fn.term l.rest ≡ with_term l.fn.term l.fn.terms

abbrev pub decreases-insert : goal.decreases-insert
decreases-insert l = length l.rest
