-- what is noted so far and what is left
use Rattle.std.proofs.Common.{◌≡◌, ◌++◌, map, length}
use Rattle.vx_sound.specs.Origins.{bases_taken}
use Rattle.vx_sound.proofs.arguments.all_taken.Given as goal

abbrev pub invariant-take : goal.invariant-take
invariant-take l = l.taken ++ map bases_taken l.rest ≡ map bases_taken l.fn.functions

abbrev pub decreases-take : goal.decreases-take
decreases-take l = length l.rest
