use Rattle.std.proofs.lemmas.Result.{IfOk-weaker}
use Rattle.vx_lower.proofs.Emitting.{asked_of}
use Rattle.vx_lower.proofs.expressions.compared.Goals as goal

pub returns-clause-code : goal.returns-clause-code
returns-clause-code c = IfOk-weaker c.branch-b.result _ _ (λ n forks. asked_of c.args.compare c.args.left c.args.right c.in_ok-c.c n c.args.b.now c.fresh.new.self c.branch-b.new.self c.in_ok-c.ensures forks) c.branch-b.ensures.code

pub returns-clause-steps : goal.returns-clause-steps
returns-clause-steps c = IfOk-weaker c.branch-b.result _ _ (λ n forks. record { test = c.in_ok-c.c; middle = c.fresh.new.self; taken = c.in_ok-c.ensures; forked = forks }) c.branch-b.ensures.steps
