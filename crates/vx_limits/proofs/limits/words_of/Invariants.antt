use Rattle.std.proofs.Common.{drop, true}
use Rattle.std.specs.List.{sum}
use Rattle.vx_limits.proofs.Counting.{Counted}
use Rattle.vx_limits.proofs.limits.words_of.Given as goal

abbrev pub invariant-loop-size : goal.invariant-loop-size
invariant-loop-size l = Counted sum (λ z. true) l.words (drop l.size-index l.fn.sizes) l.fn.sizes
