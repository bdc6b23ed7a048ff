use Rattle.std.proofs.Common.{◌<◌, ℕ}
use Rattle.vx_inline.specs.Choosing.{NoneIsWorthIt, site_of}
use Rattle.vx_inline.proofs.choice.has_worthy.Given as goal

abbrev pub invariant-loop-block : goal.invariant-loop-block
invariant-loop-block l = (b : ℕ) → b < l.block → NoneIsWorthIt l.asked.flow.now l.asked.counts.now l.asked.most l.best (site_of l.function b)
