use Rattle.std.proofs.Common.{◌≡◌, take}
use Rattle.vx_room.specs.Items.{is_observable_item}
use Rattle.vx_room.specs.Room.{count_in}
use Rattle.vx_room.proofs.room.count_of_observable.Given as goal

abbrev pub invariant-loop-x : goal.invariant-loop-x
invariant-loop-x l = l.count ≡ count_in is_observable_item (take l.x-index l.items)
