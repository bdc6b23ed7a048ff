use Rattle.std.proofs.Common.{◌≡◌, ◌++◌, drop, take}
use Rattle.vx_select.specs.Joining.{now_behind}
use Rattle.vx_select.specs.Selected.{as_is, moved, takes}
use Rattle.vx_select.proofs.both_sides.push_moved.Given as goal

abbrev pub invariant-loop-place : goal.invariant-loop-place
invariant-loop-place l = l.ops ++ moved (takes l.values l.others) (now_behind (takes l.values l.others) (take l.place l.side)) (drop l.place l.side) ≡ l.initial.ops ++ moved (takes l.values l.others) as_is l.side
