use Rattle.std.proofs.Common.{◌∙◌}
use Rattle.vx_flow.proofs.copies.copied_block.Goals as goal

pub returns : goal.returns
returns c = λ i. record { ops = (c.in_ok-ops.ensures ∙ c.as_slice.ensures) i; exit = c.in_ok-exit.ensures i }
