-- the visits that are left make the whole list
use Rattle.std.proofs.Common.{◌≡◌, suc, reverse, length, []}
use Rattle.vx_flow.specs.Walk.{numbers}
use Rattle.vx_bug.specs.Clusters.{visit_each, visit}
use Rattle.vx_bug.specs.Marks.{AreMarks}
use Rattle.vx_bug.proofs.order.listed.Given as goal

abbrev pub invariant-walk : goal.invariant-walk
invariant-walk l = record {
  left : visit_each (visit (suc (length l.trace.ops)) l.trace) (reverse (numbers 0 l.place)) l.order ≡ visit_each (visit (suc (length l.trace.ops)) l.trace) (reverse (numbers 0 (length l.trace.ops))) [];
  marks : AreMarks l.marks.items l.order;
}

abbrev pub decreases-walk : goal.decreases-walk
decreases-walk l = l.place
