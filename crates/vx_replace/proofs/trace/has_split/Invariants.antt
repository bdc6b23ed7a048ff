use Rattle.std.proofs.Common.{◌≡◌, drop}
use Rattle.vx_replace.specs.TraceLists.{has_split}
use Rattle.vx_replace.proofs.trace.has_split.Given as goal

abbrev pub invariant-loop-index : goal.invariant-loop-index
invariant-loop-index l = has_split l.graph (drop l.index l.blocks) ≡ has_split l.graph l.blocks
