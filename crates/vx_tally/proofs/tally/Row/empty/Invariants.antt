use Rattle.std.proofs.Common.{◌≡◌, replicate}
use Rattle.vx_tally.specs.Tally.{never}
use Rattle.vx_tally.proofs.tally.Row.empty.Given as goal

abbrev pub invariant-entries : goal.invariant-entries
invariant-entries l = l.entries.items ≡ replicate l.counter never
