use Rattle.std.proofs.Common.{ap, ◌∙◌, true, slice_index_or}
use Rattle.vx_replace.proofs.TraceSteps.{marks_all}
use Rattle.vx_replace.proofs.joins.marks_of.Goals as goal

pub returns : goal.returns
returns c = λ b h. ap (λ l. slice_index_or l b true) c.mark_all.ensures ∙ marks_all c.args.blocks.now _ b h
