use Rattle.std.proofs.Common.{sym}
use Rattle.vx_claims.proofs.Covering.{marked_anew}
use Rattle.vx_claims.proofs.fact_list.FactList.renew.Goals as goal

pub invariant_of-self : goal.invariant_of-self
invariant_of-self c = marked_anew c.as_slice.result.now _ _ _ _ _ _ _ (sym c.as_slice.ensures.value) c.mark_facts.ensures.named c.mark_facts.ensures.read c.mark_facts.ensures.linked
