-- the lists so far are right
use Rattle.std.proofs.Common.{◌≡◌, ◌-◌, ◌≤◌, length}
use Rattle.vx_dep.specs.Near.{AreNoted}
use Rattle.vx_dep.proofs.Noting.{AreSoFar}
use Rattle.vx_dep.proofs.earlier.lists_by_rows.Given as goal

abbrev pub invariant-find : goal.invariant-find
invariant-find l = record {
  noted : AreNoted l.fn.sight.keys l.near l.place;
  so_far : AreSoFar l.fn.sight.machine l.fn.sight.mode l.fn.sight.trace.now l.lists;
  place : l.place ≡ length l.lists;
  within : l.place ≤ length l.fn.sight.trace.now.ops;
}

abbrev pub decreases-find : goal.decreases-find
decreases-find l = length l.fn.sight.trace.now.ops - l.place
