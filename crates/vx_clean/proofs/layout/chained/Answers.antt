use Rattle.std.proofs.Common.{◌∙◌, ap, length}
use Rattle.vx_clean.proofs.Filled.{filled_length}
use Rattle.vx_clean.proofs.layout.chained.Goals as goal

pub chains-requires : goal.chains-requires
chains-requires c = ap (λ z. length z) c.as_slice-2.ensures.value ∙ c.unmark_joined.ensures ∙ c.mark_firsts.ensures ∙ filled_length _ _ _ c.in_ok-firsts.ensures

pub returns-clause-numbers : goal.returns-clause-numbers
returns-clause-numbers c = c.in_ok-chains.ensures.numbers ∙ filled_length _ _ _ c.in_ok-to.ensures

pub returns-clause-chains : goal.returns-clause-chains
returns-clause-chains c = c.in_ok-chains.ensures.chains
