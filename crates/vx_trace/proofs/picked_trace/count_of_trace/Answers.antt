use Rattle.std.proofs.Common.{◌∙◌}
use Rattle.vx_trace.proofs.Seeds.{seed_is_greatest}
use Rattle.vx_trace.proofs.picked_trace.count_of_trace.Goals as goal

pub returns : goal.returns
returns c = λ picked. c.greatest_count.ensures ∙ seed_is_greatest c.args.mixed.now c.args.counts.now c.args.blocks.now picked
