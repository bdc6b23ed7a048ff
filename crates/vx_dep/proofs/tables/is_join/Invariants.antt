-- no join so far stands there
use Rattle.std.proofs.Common.{◌≡◌, false, take}
use Rattle.vx_dep.specs.Tables.{is_join}
use Rattle.vx_dep.proofs.tables.is_join.Given as goal

abbrev pub invariant-loop-join : goal.invariant-loop-join
invariant-loop-join l = is_join (take l.join-index l.joins) l.place ≡ false
