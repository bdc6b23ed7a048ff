use Rattle.std.proofs.Common.{◌≡◌, ◌++◌, drop}
use Rattle.vx_claims.specs.Facts.{without}
use Rattle.vx_claims.proofs.effects.append_without.Given as goal

abbrev pub invariant-loop-fact : goal.invariant-loop-fact
invariant-loop-fact l = l.list ++ without l.value (drop l.fact-index l.facts) ≡ l.initial.list ++ without l.value l.facts
