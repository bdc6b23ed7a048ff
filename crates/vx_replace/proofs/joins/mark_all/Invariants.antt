use Rattle.std.proofs.Common.{◌≡◌, drop}
use Rattle.vx_replace.specs.TraceLists.{marked}
use Rattle.vx_replace.proofs.joins.mark_all.Given as goal

abbrev pub invariant-loop-block : goal.invariant-loop-block
invariant-loop-block l = marked (drop l.block-index l.blocks) l.marks.items ≡ marked l.blocks l.initial.marks.items
