-- the marks so far and those of what is left
use Rattle.std.proofs.Common.{◌≡◌, ◌++◌, map, length}
use Rattle.vx_flow.specs.Sound.{is_given_base}
use Rattle.vx_sound.specs.Origins.{bases_taken}
use Rattle.vx_sound.proofs.arguments.bases_taken.Given as goal

abbrev pub invariant-mark : goal.invariant-mark
invariant-mark l = l.taken ++ map (is_given_base l.fn.graph) l.rest ≡ bases_taken l.fn.graph

abbrev pub decreases-mark : goal.decreases-mark
decreases-mark l = length l.rest
