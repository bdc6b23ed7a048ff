use Rattle.std.proofs.Common.{◌≡◌, drop}
use Rattle.vx_inline.specs.Values.{marked_all}
use Rattle.vx_inline.proofs.marks.mark_all.Given as goal

abbrev pub invariant-loop-value : goal.invariant-loop-value
invariant-loop-value l = marked_all (drop l.value-index l.values) l.marks.items ≡ marked_all l.values l.initial.marks.items
