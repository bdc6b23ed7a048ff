use Rattle.std.proofs.Common.{◌≡◌, true, take}
use Rattle.std.specs.List.{list_all}
use Rattle.vx_room.specs.Room.{is_cluster, read_clusters}
use Rattle.vx_room.proofs.room.all_read_well.Given as goal

abbrev pub invariant-loop-x : goal.invariant-loop-x
invariant-loop-x l = list_all (λ x. list_all (is_cluster l.machine) (read_clusters l.homes x)) (take l.x-index l.items) ≡ true
