use Rattle.std.proofs.Common.{◌++◌, ◌∷◌, [], ℕ, ℤ, List, to_z, of_z, w32, append_assoc, append-nil, ap, sym, ◌∙◌}
use Rattle.vx_base.specs.declared.arithmetic.Code.TheVariants.{Add}
use Rattle.vx_isa.specs.declared.operation.Operation.{Operation}
use Rattle.vx_isa.specs.declared.operation.Operation.TheVariants.{Compute}
use Rattle.vx_isa.specs.declared.operation.Register.TheVariants.{General as InGeneral}
use Rattle.vx_isa.specs.declared.operation.Source.TheVariants.{Held, Number}
use Rattle.vx_target.specs.Target.{on_clusters, stack_on}
use Rattle.vx_calls.proofs.CallSteps.{clusters_more}
use Rattle.vx_calls.proofs.call_words.stack_steps.Goals as goal

abbrev Stepped : ℤ → ℕ → Operation
Stepped step k = Compute k Add (InGeneral (stack_on k)) (Held (stack_on k)) (Number step)

-- those before are there at first
pub loop-cluster-init : goal.loop-cluster-init
loop-cluster-init c = c.in_ok-ops.ensures ∙ sym (append-nil c.args.first.now)

-- one cluster more
pub loop-cluster-preserved : goal.loop-cluster-preserved
loop-cluster-preserved c =
    let n = c.loop-cluster.cluster in
    let first = c.args.first.now in
    let step = to_z w32 (of_z w32 c.args.step) in
    c.in_ok-push.ensures.ok
    ∙ ap (λ (z : List Operation). z ++ c.stack_step.result ∷ []) c.loop-cluster.invariant
    ∙ ap (λ (x : Operation). (first ++ on_clusters n (Stepped step)) ++ x ∷ []) c.stack_step.ensures
    ∙ append_assoc first (on_clusters n (Stepped step)) (Stepped step n ∷ [])
    ∙ ap (λ (z : List Operation). first ++ z) (sym (clusters_more (Stepped step) n))
