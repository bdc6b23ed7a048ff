-- what is asked of those so far and of what is left
use Rattle.std.proofs.Common.{◌≡◌, ◌++◌, map, length}
use Rattle.vx_dep.specs.Traits.{traits_of}
use Rattle.vx_dep.proofs.tables.all_traits.Given as goal

abbrev pub invariant-ask : goal.invariant-ask
invariant-ask l = l.traits ++ map (traits_of l.fn.machine) l.rest ≡ map (traits_of l.fn.machine) l.fn.ops

abbrev pub decreases-ask : goal.decreases-ask
decreases-ask l = length l.rest
