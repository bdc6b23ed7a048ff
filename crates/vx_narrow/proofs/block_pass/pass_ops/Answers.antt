use Rattle.std.proofs.Common.{◌≡◌, ◌++◌, List, ap, ◌∙◌}
use Rattle.vx_flow.specs.declared.graph.Op.{Op}
use Rattle.vx_claims.specs.declared.fact.Fact.{Fact}
use Rattle.vx_claims.specs.declared.access.Access.{Access}
use Rattle.vx_claims.specs.Forming.{accessed_from, after_from}
use Rattle.vx_narrow.specs.Shortening.{improved_from}
use Rattle.vx_narrow.proofs.block_pass.pass_ops.Goals as goal

from_claims : {X : Type 0} (F : List Fact → List Access → X) (fs claims : List Fact) (xs accesses : List Access) → fs ≡ claims → xs ≡ accesses → F fs xs ≡ F claims accesses
from_claims F fs claims xs accesses f x = ap (λ (h : List Fact). F h xs) f ∙ ap (λ (h : List Access). F claims h) x

pub returns-clause-facts : goal.returns-clause-facts
returns-clause-facts c =
    c.in_ok-from_vec.ensures ∙ c.into_vec.ensures ∙ c.in_ok-pass_each.ensures.facts
    ∙ from_claims (λ fs xs. after_from c.args.arrays.now fs xs c.args.ops.now) c.in_ok-facts.facts c.args.claims.now c.in_ok-known.known c.args.accesses.now c.in_ok-facts.ensures c.in_ok-known.ensures

pub returns-clause-accesses : goal.returns-clause-accesses
returns-clause-accesses c =
    c.in_ok-pass_each.ensures.known
    ∙ from_claims (λ fs xs. accessed_from c.args.arrays.now fs xs c.args.ops.now) c.in_ok-facts.facts c.args.claims.now c.in_ok-known.known c.args.accesses.now c.in_ok-facts.ensures c.in_ok-known.ensures

pub returns-clause-ops : goal.returns-clause-ops
returns-clause-ops c =
    c.in_ok-pass_each.ensures.made
    ∙ ap (λ (made : List Op). made ++ improved_from c.args.arrays.now c.args.ops.now c.in_ok-facts.facts c.in_ok-known.known c.args.ops.now) c.new-made.ensures
    ∙ from_claims (λ fs xs. improved_from c.args.arrays.now c.args.ops.now fs xs c.args.ops.now) c.in_ok-facts.facts c.args.claims.now c.in_ok-known.known c.args.accesses.now c.in_ok-facts.ensures c.in_ok-known.ensures
