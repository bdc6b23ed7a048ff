-- the lists so far and those of what is left
use Rattle.std.proofs.Common.{◌≡◌, ◌++◌, length}
use Rattle.vx_dep.specs.Tables.{lives_from, lives_of}
use Rattle.vx_dep.proofs.tables.lives.Given as goal

abbrev pub invariant-leave : goal.invariant-leave
invariant-leave l = l.lives ++ lives_from l.rest ≡ lives_of l.fn.trace

abbrev pub decreases-leave : goal.decreases-leave
decreases-leave l = length l.rest
