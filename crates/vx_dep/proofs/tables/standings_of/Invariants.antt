-- the entries so far and those of what is left
use Rattle.std.proofs.Common.{length}
use Rattle.vx_dep.specs.Tables.{standings_from, AreStanding}
use Rattle.vx_dep.proofs.tables.standings_of.Given as goal

abbrev pub invariant-stand : goal.invariant-stand
invariant-stand l = AreStanding (standings_from l.fn.joins 0 l.fn.traits) l.fn.joins l.standings l.joined l.rest

abbrev pub decreases-stand : goal.decreases-stand
decreases-stand l = length l.rest
