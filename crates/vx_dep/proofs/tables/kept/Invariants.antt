-- those so far, and those of what is left
use Rattle.std.proofs.Common.{◌≡◌, ◌+◌, ◌≤◌, drop}
use Rattle.vx_dep.specs.Tables.{kept}
use Rattle.vx_dep.proofs.tables.kept.Given as goal

abbrev pub invariant-loop-other : goal.invariant-loop-other
invariant-loop-other l = (l.count + kept l.first (drop l.other-index l.behind) ≡ kept l.first l.behind) × (l.count ≤ l.other-index)
