use Rattle.std.proofs.Common.{arith}
use Rattle.vx_machine.proofs.Counts.{count_within}
use Rattle.vx_room.proofs.room.count_of_copies.Goals as goal

pub overflow_add-count : goal.overflow_add-count
overflow_add-count c = omega (arith, count_within _ c.args.items.now c.loop-x.x-index c.loop-x.count c.loop-x-test.true c.loop-x.invariant)
