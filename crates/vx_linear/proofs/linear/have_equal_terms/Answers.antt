use Rattle.std.proofs.Common.{◌∙◌, [], ap, sym}
use Rattle.vx_linear.specs.Linear.{same_terms}
use Rattle.vx_linear.proofs.Merging.{empty_of}
use Rattle.vx_linear.proofs.linear.have_equal_terms.Goals as goal

pub returns-in-None-None : goal.returns-in-None-None
returns-in-None-None c =
    let left = empty_of c.compare.to_left.now c.in-None-None.ensures.cases in
    let right = empty_of c.compare.to_right.now c.in-None-None.ensures'.cases in
    sym (ap (λ ts. same_terms ts c.compare.to_right.now) left ∙ ap (λ ts. same_terms [] ts) right) ∙ sym c.compare.invariant

pub returns-in_default : goal.returns-in_default
returns-in_default c =
    let left = empty_of c.compare.to_left.now c.in_default.ensures.cases in
    let right = c.in_default.ensures'.cases.0 in
    sym (ap (λ ts. same_terms ts c.compare.to_right.now) left ∙ ap (λ ts. same_terms [] ts) right) ∙ sym c.compare.invariant
