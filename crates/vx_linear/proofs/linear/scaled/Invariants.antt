-- what is left to do gives the rest of the whole
use Rattle.std.proofs.Common.{◌≡◌, ◌++◌, length}
use Rattle.vx_linear.specs.Linear.{scaled}
use Rattle.vx_linear.proofs.linear.scaled.Given as goal

abbrev pub invariant-scale : goal.invariant-scale
invariant-scale l = l.list ++ scaled l.number l.rest ≡ scaled l.number l.fn.terms

abbrev pub decreases-scale : goal.decreases-scale
decreases-scale l = length l.rest
