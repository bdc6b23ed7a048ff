use Rattle.std.proofs.Common.{◌∙◌, sym}
use Rattle.vx_region.proofs.ShortDrains.{far_back}
use Rattle.vx_region.proofs.waits.left_at.Goals as goal

pub returns-then-is_far : goal.returns-then-is_far
returns-then-is_far c = far_back c.args.machine.now c.args.end c.args.word c.args.op.now c.keeps_ranges.ensures (sym c.is_far.ensures ∙ c.if-is_far.true)
