use Rattle.vx_inline.specs.Choosing.{BestBefore}
use Rattle.vx_inline.proofs.choice.best_of_all.Given as goal

abbrev pub invariant-loop-function : goal.invariant-loop-function
invariant-loop-function l = BestBefore l.asked.flow.now l.asked.counts.now l.asked.most l.function 0 l.best
