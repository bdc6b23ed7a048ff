use Rattle.std.proofs.Common.{sym, ap}
use Rattle.std.proofs.lemmas.List.{nil_from_length}
use Rattle.vx_trace.specs.Picked.{greatest_count}
use Rattle.vx_trace.proofs.picked_trace.+greatest_count.Goals as goal

pub returns-in-None : goal.returns-in-None
returns-in-None n c = ap (greatest_count c.args.mixed.now c.args.counts.now) (sym (nil_from_length c.args.blocks.now c.in-None.ensures.cases))
