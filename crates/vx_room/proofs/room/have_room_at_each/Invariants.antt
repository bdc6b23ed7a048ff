use Rattle.std.proofs.Common.{◌≡◌, true}
use Rattle.vx_isa.specs.Fits.{all_below}
use Rattle.vx_room.specs.Room.{has_room_at}
use Rattle.vx_room.proofs.room.have_room_at_each.Given as goal

abbrev pub invariant-loop-cluster : goal.invariant-loop-cluster
invariant-loop-cluster l = all_below l.cluster (has_room_at l.machine l.homes l.items) ≡ true
