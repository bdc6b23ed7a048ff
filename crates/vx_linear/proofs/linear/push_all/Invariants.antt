-- what is left to do gives the rest of the whole
use Rattle.std.proofs.Common.{◌≡◌, ◌++◌, length}
use Rattle.vx_linear.proofs.linear.push_all.Given as goal

abbrev pub invariant-copy : goal.invariant-copy
invariant-copy l = l.list ++ l.rest ≡ l.initial.list ++ l.fn.terms

abbrev pub decreases-copy : goal.decreases-copy
decreases-copy l = length l.rest
