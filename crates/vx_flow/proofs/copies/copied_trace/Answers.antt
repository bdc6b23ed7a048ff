use Rattle.std.proofs.Common.{◌∙◌}
use Rattle.vx_flow.proofs.copies.copied_trace.Goals as goal

pub returns-in-Ok-Ok-Ok-Ok-Ok : goal.returns-in-Ok-Ok-Ok-Ok-Ok
returns-in-Ok-Ok-Ok-Ok-Ok c = λ i. record {
  function = c.args.trace.now.function;
  blocks = (c.in-Ok-Ok-Ok-Ok-Ok.ensures ∙ c.as_slice.ensures) i;
  ops = (c.in-Ok-Ok-Ok-Ok-Ok.ensures' ∙ c.as_slice-2.ensures) i;
  fixed = (c.in-Ok-Ok-Ok-Ok-Ok.ensures'' ∙ c.as_slice-3.ensures) i;
  joins = (c.in-Ok-Ok-Ok-Ok-Ok.ensures''' ∙ c.as_slice-4.ensures) i;
  values = c.args.trace.now.values;
  arrays = (c.in-Ok-Ok-Ok-Ok-Ok.ensures'''' ∙ c.as_slice-5.ensures) i;
}
