use Rattle.std.proofs.Common.{drop}
use Rattle.vx_inline.proofs.Likely.{SoFar}
use Rattle.vx_inline.proofs.choice.likely_of.Given as goal

abbrev pub invariant-loop-block : goal.invariant-loop-block
invariant-loop-block l = SoFar l.asked.flow.now l.asked.counts.now l.asked.most l.function l.calls (drop l.block-index l.calls) l.fn.best l.likely
