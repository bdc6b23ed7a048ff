use Rattle.std.proofs.Common.{◌≡◌, false, take}
use Rattle.std.specs.List.{list_any}
use Rattle.vx_claims.specs.Facts.{names}
use Rattle.vx_claims.proofs.effects.any_names.Given as goal

abbrev pub invariant-loop-fact : goal.invariant-loop-fact
invariant-loop-fact l = list_any (names l.value) (take l.fact-index l.facts) ≡ false
