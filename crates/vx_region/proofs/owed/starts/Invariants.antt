-- the words so far, and those of the joins that are left
use Rattle.std.proofs.Common.{◌≡◌, ◌++◌, map, length}
use Rattle.vx_dep.specs.declared.copies.Rejoin.{Rejoin}
use Rattle.vx_region.proofs.owed.starts.Given as goal

abbrev pub invariant-start : goal.invariant-start
invariant-start l = l.starts ++ map (λ (x : Rejoin). x.word) l.rest ≡ map (λ (x : Rejoin). x.word) l.fn.rejoins

abbrev pub decreases-start : goal.decreases-start
decreases-start l = length l.rest
