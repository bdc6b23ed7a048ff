-- the entries so far and those of what is left
use Rattle.std.proofs.Common.{◌≡◌, ◌++◌, map, length}
use Rattle.vx_dep.specs.Keys.{key_of}
use Rattle.vx_dep.proofs.keys.keys.Given as goal

abbrev pub invariant-ask : goal.invariant-ask
invariant-ask l = l.keys ++ map key_of l.rest ≡ map key_of l.fn.standings

abbrev pub decreases-ask : goal.decreases-ask
decreases-ask l = length l.rest
