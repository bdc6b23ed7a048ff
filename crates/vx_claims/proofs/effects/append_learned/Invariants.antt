use Rattle.std.proofs.Common.{◌≡◌, ◌++◌, drop}
use Rattle.vx_claims.specs.Facts.{learned}
use Rattle.vx_claims.proofs.effects.append_learned.Given as goal

abbrev pub invariant-loop-fact : goal.invariant-loop-fact
invariant-loop-fact l = l.list ++ learned l.facts l.answer l.test (drop l.fact-index l.facts) ≡ l.initial.list ++ learned l.facts l.answer l.test l.facts
