use Rattle.std.proofs.Common.{◌≡◌, drop}
use Rattle.vx_narrow.specs.Shortening.{factors_of}
use Rattle.vx_narrow.proofs.one_product.factors_of.Given as goal

abbrev pub invariant-loop-fact : goal.invariant-loop-fact
invariant-loop-fact l = factors_of (drop l.fact-index l.facts) l.value ≡ factors_of l.facts l.value
