use Rattle.std.proofs.Common.{◌++◌, ◌∷◌, [], ℕ, ℤ, List, to_z, of_z, w32, ap, sym, ◌∙◌}
use Rattle.vx_isa.specs.declared.operation.Operation.{Operation}
use Rattle.vx_isa.specs.declared.operation.Operation.TheVariants.{Move}
use Rattle.vx_isa.specs.declared.operation.Source.TheVariants.{Number}
use Rattle.vx_target.specs.Target.{on_clusters, stack_on}
use Rattle.vx_calls.proofs.CallSteps.{clusters_more}
use Rattle.vx_calls.proofs.call_words.stacks_at.Goals as goal

abbrev Placed : ℤ → ℕ → Operation
Placed address k = Move k (stack_on k) (Number address)

-- one cluster more
pub loop-cluster-preserved : goal.loop-cluster-preserved
loop-cluster-preserved c =
    let n = c.loop-cluster.cluster in
    let address = to_z w32 (of_z w32 c.args.address) in
    c.in_ok-push.ensures.ok
    ∙ ap (λ (z : List Operation). z ++ c.stack_at.result ∷ []) c.loop-cluster.invariant
    ∙ ap (λ (x : Operation). on_clusters n (Placed address) ++ x ∷ []) c.stack_at.ensures
    ∙ sym (clusters_more (Placed address) n)
