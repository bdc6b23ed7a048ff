use Rattle.std.proofs.Common.{sym, ◌∙◌, arith}
use Rattle.vx_isa.proofs.FitsLaw.{all_below-fails}
use Rattle.vx_room.specs.Room.{has_room_at}
use Rattle.vx_room.proofs.room.have_room_at_each.Goals as goal

pub returns-then-not-has_room_at : goal.returns-then-not-has_room_at
returns-then-not-has_room_at c = sym (all_below-fails (has_room_at c.args.machine.now c.args.homes.now c.args.items.now) c.args.machine.now.clusters c.loop-cluster.cluster (omega arith) (sym c.has_room_at.ensures ∙ c.if-not-has_room_at.true))
