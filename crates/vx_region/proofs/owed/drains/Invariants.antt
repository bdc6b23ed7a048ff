-- the cycles so far, and those of the splits that are left
use Rattle.std.proofs.Common.{◌≡◌, ◌++◌, map, length}
use Rattle.vx_dep.specs.declared.copies.EdgeCopies.{EdgeCopies}
use Rattle.vx_region.proofs.owed.drains.Given as goal

abbrev pub invariant-drain : goal.invariant-drain
invariant-drain l = l.drains ++ map (λ (x : EdgeCopies). x.drain) l.rest ≡ map (λ (x : EdgeCopies). x.drain) l.fn.splits

abbrev pub decreases-drain : goal.decreases-drain
decreases-drain l = length l.rest
