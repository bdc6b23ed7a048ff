use Rattle.std.proofs.Common.{◌++◌, ◌∷◌, [], List, ap, ◌∙◌}
use Rattle.vx_room.specs.declared.items.ClusteredItem.{ClusteredItem}
use Rattle.vx_sched.specs.Filling.{row_of}
use Rattle.vx_sched.proofs.RowSteps.{empty_row}
use Rattle.vx_sched.proofs.rows.reach.Goals as goal

pub reach-preserved : goal.reach-preserved
reach-preserved c = λ v.
    ap (λ (rows : List (List ClusteredItem)). row_of rows v) c.in_ok-push.ensures.items
    ∙ ap (λ (row : List ClusteredItem). row_of (c.reach.rows.items ++ row ∷ []) v) c.new.ensures
    ∙ empty_row c.reach.rows.items v ∙ c.reach.invariant v
