use Rattle.std.proofs.Common.{◌≡◌, List, IfOk, subst}
use Rattle.vx_claims.specs.declared.fact.Fact.{Fact}
use Rattle.vx_claims.proofs.Kept.{said_computed}
use Rattle.vx_claims.proofs.effects.append_said_unless.Goals as goal

pub returns-in_ok-append_result-in-Compute : goal.returns-in_ok-append_result-in-Compute
returns-in_ok-append_result-in-Compute c =
    let p = c.in-Compute in
    subst (λ (l : List Fact). IfOk c.append_test.result (λ _. c.append_test.new.list ≡ l))
    (said_computed c.args.list.now c.append_result.new.list c.args.facts.now c.args.test c.args.op.now p.code p.to p.left p.right p.is c.if-test.false c.in_ok-append_result-in-Compute.ensures) c.append_test.ensures
