use Rattle.std.proofs.Common.{◌≡◌, ◌++◌}
use Rattle.vx_base.specs.declared.arithmetic.Code.TheVariants.{Add}
use Rattle.vx_isa.specs.declared.operation.Operation.TheVariants.{Compute}
use Rattle.vx_isa.specs.declared.operation.Register.TheVariants.{General as InGeneral}
use Rattle.vx_isa.specs.declared.operation.Source.TheVariants.{Held, Number}
use Rattle.vx_target.specs.Target.{stack_on, on_clusters}
use Rattle.vx_calls.proofs.call_words.stack_steps.Given as goal

abbrev pub invariant-loop-cluster : goal.invariant-loop-cluster
invariant-loop-cluster l = l.ops ≡ l.fn.first ++ on_clusters l.cluster (λ k. Compute k Add (InGeneral (stack_on k)) (Held (stack_on k)) (Number l.step))
