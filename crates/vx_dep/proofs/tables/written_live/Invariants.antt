-- the marks so far and those of what is left
use Rattle.std.proofs.Common.{◌≡◌, ◌++◌, map, length}
use Rattle.vx_dep.specs.Traits.{written, has}
use Rattle.vx_dep.proofs.tables.written_live.Given as goal

abbrev pub invariant-mark : goal.invariant-mark
invariant-mark l = l.live ++ map (λ op. has (written op) l.fn.values) l.rest ≡ map (λ op. has (written op) l.fn.values) l.fn.ops

abbrev pub decreases-mark : goal.decreases-mark
decreases-mark l = length l.rest
