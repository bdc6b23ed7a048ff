use Rattle.std.proofs.Common.{◌≡◌, List, IfOk, subst}
use Rattle.vx_claims.specs.declared.fact.Fact.{Fact}
use Rattle.vx_claims.proofs.Newest.{newest_kept, newest_equals}
use Rattle.vx_claims.proofs.effects.+append_newest.Goals as goal

pub returns-in_ok-push-in-Between : goal.returns-in_ok-push-in-Between
returns-in_ok-push-in-Between t c =
    subst (λ (l : List Fact). IfOk c.append_newest.result (λ _. c.append_newest.new.list ≡ l))
    (newest_kept c.args.left c.args.facts.now c.args.list.now c.push.new.self _ c.in-len1-up.len_at_least c.in-Between.is c.in_ok-push-in-Between.ensures.ok) c.append_newest.ensures

pub returns-in_ok-push-in-Equals : goal.returns-in_ok-push-in-Equals
returns-in_ok-push-in-Equals t c =
    subst (λ (l : List Fact). IfOk c.append_newest-else-left-eq0.result (λ _. c.append_newest-else-left-eq0.new.list ≡ l))
    (newest_equals c.args.left c.args.facts.now c.args.list.now c.push-else-left-eq0.new.self _ _ _ _ _ c.if-left-eq0.false c.in-len1-up.len_at_least c.in-Equals.is c.in_ok-push-in-Equals.ensures.ok) c.append_newest-else-left-eq0.ensures
