use Rattle.std.proofs.Common.{◌≡◌, take}
use Rattle.vx_isa.specs.declared.operation.UnitKind.TheVariants.{Copies}
use Rattle.vx_room.specs.Room.{count_in, needs}
use Rattle.vx_room.proofs.room.count_of_copies.Given as goal

abbrev pub invariant-loop-x : goal.invariant-loop-x
invariant-loop-x l = l.count ≡ count_in (needs Copies) (take l.x-index l.items)
