use Rattle.vx_claims.proofs.Covering.{marked_anew}
use Rattle.vx_claims.proofs.fact_list.FactList.new.Goals as goal

pub invariant_of-result : goal.invariant_of-result
invariant_of-result c = marked_anew c.args.facts.now c.in_ok-list.list.items _ _ _ _ _ _ c.in_ok-list.ensures c.mark_facts.ensures.named c.mark_facts.ensures.read c.mark_facts.ensures.linked
