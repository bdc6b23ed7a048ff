use Rattle.std.proofs.Common.{◌≡◌, take}
use Rattle.vx_room.specs.Items.{is_split}
use Rattle.vx_room.specs.Room.{count_in}
use Rattle.vx_room.proofs.room.count_of_splits.Given as goal

abbrev pub invariant-loop-x : goal.invariant-loop-x
invariant-loop-x l = l.count ≡ count_in is_split (take l.x-index l.items)
