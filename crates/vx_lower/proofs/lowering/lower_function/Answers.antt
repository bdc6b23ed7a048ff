use Rattle.std.proofs.Common.{arith}
use Rattle.vx_lower.proofs.lowering.lower_function.Goals as goal

pub count_arrays-count-requires : goal.count_arrays-count-requires
count_arrays-count-requires c = record { room = c.has_room.ensures.few c.if-not-has_room.false }

pub lower_sized-requires-clause-pairs : goal.lower_sized-requires-clause-pairs
lower_sized-requires-clause-pairs c = let a = c.has_room.ensures.room c.if-not-has_room.false in let b = c.count_arrays-count.ensures.few in omega arith
