use Rattle.std.proofs.Common.{ℕ, List, length, ap, ◌∙◌}
use Rattle.std.proofs.lemmas.Result.{IfOk-weaker}
use Rattle.vx_clean.proofs.layout.find_layout.Goals as goal

-- there is a number for each block, since there is a mark for each
pub returns-clause-numbers : goal.returns-clause-numbers
returns-clause-numbers c = IfOk-weaker c.chained.result _ _ (λ layout same. same ∙ ap (λ (xs : List ℕ). length xs) c.as_slice-2.ensures.value ∙ c.in_ok-after.ensures) c.chained.ensures.numbers
