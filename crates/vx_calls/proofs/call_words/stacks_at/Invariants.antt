use Rattle.std.proofs.Common.{◌≡◌}
use Rattle.vx_isa.specs.declared.operation.Operation.TheVariants.{Move}
use Rattle.vx_isa.specs.declared.operation.Source.TheVariants.{Number}
use Rattle.vx_target.specs.Target.{stack_on, on_clusters}
use Rattle.vx_calls.proofs.call_words.stacks_at.Given as goal

abbrev pub invariant-loop-cluster : goal.invariant-loop-cluster
invariant-loop-cluster l = l.ops ≡ on_clusters l.cluster (λ k. Move k (stack_on k) (Number l.address))
