use Rattle.vx_inline.proofs.Likely.{NoneBelow}
use Rattle.vx_inline.proofs.choice.likely.Given as goal

abbrev pub invariant-loop-function : goal.invariant-loop-function
invariant-loop-function l = NoneBelow l.asked.flow.now l.asked.counts.now l.asked.most l.function l.best
