use Rattle.std.proofs.Common.{sym}
use Rattle.vx_narrow.proofs.Factors.{unlinked_factors}
use Rattle.vx_narrow.proofs.one_product.factors_in.Goals as goal

pub returns-else-is_linked : goal.returns-else-is_linked
returns-else-is_linked c = sym (unlinked_factors c.args.facts.now c.args.value (c.is_linked.ensures c.if-is_linked.false))
