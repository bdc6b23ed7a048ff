use Rattle.vx_inline.specs.Keeping.{LeadHere}
use Rattle.vx_inline.proofs.passing.finds_return.Given as goal

abbrev pub invariant-loop-index : goal.invariant-loop-index
invariant-loop-index l = LeadHere l.graph l.marks.items
