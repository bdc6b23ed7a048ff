-- what is raised, and what is left
use Rattle.std.proofs.Common.{◌≡◌, length}
use Rattle.vx_dep.specs.Earlier.{raised}
use Rattle.vx_dep.proofs.heights.raise.Given as goal

abbrev pub invariant-raise : goal.invariant-raise
invariant-raise l = raised l.fn.below l.heights.items l.rest ≡ raised l.fn.below l.fn.heights.items l.fn.list

abbrev pub decreases-raise : goal.decreases-raise
decreases-raise l = length l.rest
