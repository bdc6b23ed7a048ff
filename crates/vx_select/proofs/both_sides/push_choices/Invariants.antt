use Rattle.std.proofs.Common.{◌≡◌, ◌++◌, map, take}
use Rattle.vx_select.specs.Selected.{choice, takes}
use Rattle.vx_select.proofs.both_sides.push_choices.Given as goal

abbrev pub invariant-loop-value : goal.invariant-loop-value
invariant-loop-value l = l.ops ≡ l.initial.ops ++ map (choice (takes l.values.left.items l.values.free.items) (takes l.values.right.items l.right_free) l.test) (take l.value-index l.values.chosen.items)
