use Rattle.std.proofs.Common.{◌≡◌, length}
use Rattle.vx_bug.specs.Ledgers.{homes_in}
use Rattle.vx_bug.specs.Laying.{with_homes_of_copies}
use Rattle.vx_bug.proofs.copy_homes.house_copies.Given as goal

abbrev pub invariant-house : goal.invariant-house
invariant-house l = with_homes_of_copies l.fn.values (homes_in l.homes.items) l.ops_left l.clusters_left l.fixed_left ≡ with_homes_of_copies l.fn.values (homes_in l.initial.homes.items) l.fn.ops l.fn.clusters l.fn.fixed

abbrev pub decreases-house : goal.decreases-house
decreases-house l = length l.ops_left
