use Rattle.std.proofs.Common.{◌≡◌, drop}
use Rattle.vx_claims.specs.Forming.{source_of}
use Rattle.vx_claims.proofs.forms.source_of.Given as goal

abbrev pub invariant-loop-fact : goal.invariant-loop-fact
invariant-loop-fact l = source_of (drop l.fact-index l.facts) l.value ≡ source_of l.facts l.value
