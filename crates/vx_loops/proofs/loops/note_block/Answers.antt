use Rattle.std.proofs.Common.{arith}
use Rattle.vx_loops.proofs.loops.note_block.Goals as goal

pub returns-else-place : goal.returns-else-place
returns-else-place c = λ few. absurd (omega (arith, few, c.if-place.false))
