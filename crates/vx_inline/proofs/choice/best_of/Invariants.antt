use Rattle.vx_inline.specs.Choosing.{BestBefore}
use Rattle.vx_inline.proofs.choice.best_of.Given as goal

abbrev pub invariant-loop-block : goal.invariant-loop-block
invariant-loop-block l = BestBefore l.asked.flow.now l.asked.counts.now l.asked.most l.function l.block l.best
