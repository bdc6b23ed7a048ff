use Rattle.vx_inline.specs.Keeping.{LeadHere}
use Rattle.vx_inline.proofs.passing.returns.Given as goal

abbrev pub invariant-loop : goal.invariant-loop
invariant-loop l = LeadHere l.graph l.marks.items
