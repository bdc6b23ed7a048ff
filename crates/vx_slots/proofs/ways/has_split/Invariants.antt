-- no item so far is a split
use Rattle.std.proofs.Common.{◌≡◌, false, take}
use Rattle.std.specs.List.{list_any}
use Rattle.vx_target.specs.Target.{is_split}
use Rattle.vx_slots.proofs.ways.has_split.Given as goal

abbrev pub invariant-loop-item : goal.invariant-loop-item
invariant-loop-item l = list_any is_split (take l.item-index l.items) ≡ false
