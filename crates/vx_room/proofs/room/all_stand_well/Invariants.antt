use Rattle.std.proofs.Common.{◌≡◌, true, take}
use Rattle.std.specs.List.{list_all}
use Rattle.vx_room.specs.Room.{stands_well}
use Rattle.vx_room.proofs.room.all_stand_well.Given as goal

abbrev pub invariant-loop-x : goal.invariant-loop-x
invariant-loop-x l = list_all (stands_well l.machine) (take l.x-index l.items) ≡ true
