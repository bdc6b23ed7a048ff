use Rattle.std.proofs.Common.{◌∙◌}
use Rattle.vx_flow.proofs.copies.with_blocks.Goals as goal

pub returns-in-Ok-Ok-Ok : goal.returns-in-Ok-Ok-Ok
returns-in-Ok-Ok-Ok c = λ i. record {
  blocks = c.args.blocks;
  banks = (c.in-Ok-Ok-Ok.ensures ∙ c.as_slice.ensures) i;
  parameters = (c.in-Ok-Ok-Ok.ensures' ∙ c.as_slice-2.ensures) i;
  arrays = (c.in-Ok-Ok-Ok.ensures'' ∙ c.as_slice-3.ensures) i;
}
