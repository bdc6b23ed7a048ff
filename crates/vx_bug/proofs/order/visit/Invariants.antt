-- what the tasks that are left do makes the whole visit
use Rattle.std.proofs.Common.{◌≡◌}
use Rattle.vx_bug.specs.Clusters.{visit}
use Rattle.vx_bug.specs.Marks.{AreMarks}
use Rattle.vx_bug.specs.Tasks.{all_done, all_weight}
use Rattle.vx_bug.proofs.order.visit.Given as goal

abbrev pub invariant-turns : goal.invariant-turns
invariant-turns l = record {
  left : all_done l.trace l.tasks.items l.order ≡ visit l.fn.depth l.trace l.fn.place l.initial.order;
  marks : AreMarks l.marks.items l.order;
}

abbrev pub decreases-turns : goal.decreases-turns
decreases-turns l = all_weight l.tasks.items
