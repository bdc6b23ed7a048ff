use Rattle.std.proofs.Common.{◌∙◌, ap, sym}
use Rattle.vx_linear.specs.Linear.{with_terms}
use Rattle.vx_linear.proofs.Merging.{empty_of}
use Rattle.vx_linear.proofs.linear.inserted.Goals as goal

pub returns-in-None : goal.returns-in-None
returns-in-None c = ap (λ ts. with_terms ts c.insert.list) (sym (empty_of c.insert.rest.now c.in-None.ensures.cases)) ∙ c.insert.invariant
