use Rattle.vx_claims.proofs.Covering.{marked_more, marked_still}
use Rattle.vx_claims.proofs.fact_list.FactList.put.Goals as goal

pub invariant_of-self : goal.invariant_of-self
invariant_of-self c = marked_still c.args.fact c.self.inside.facts.items _ _ _ _ _ _ _ c.self.invariant c.in_err-insert.ensures.items c.mark_fact.ensures.named c.mark_fact.ensures.read c.mark_fact.ensures.linked

pub invariant_of-self-2 : goal.invariant_of-self-2
invariant_of-self-2 c = marked_more c.args.fact c.self.inside.facts.items _ _ _ _ _ _ _ c.self.invariant c.in_ok-insert.ensures.items c.mark_fact.ensures.named c.mark_fact.ensures.read c.mark_fact.ensures.linked
