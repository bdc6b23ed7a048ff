use Rattle.std.proofs.Common.{◌≤◌}
use Rattle.vx_mixed.specs.Next.{new_end}
use Rattle.vx_replace.proofs.PlacingSteps.{Filled}
use Rattle.vx_replace.proofs.region.words_of.Given as goal

abbrev pub invariant-loop-index : goal.invariant-loop-index
invariant-loop-index l = record {
  filled : Filled (new_end l.graph l.replacement.made) l.ops l.clusters l.words l.replacement.drains l.replacement.length l.index l.splits l.bound l.rows.items;
  few : l.splits ≤ l.index;
}
