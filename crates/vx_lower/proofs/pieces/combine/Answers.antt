use Rattle.std.proofs.Common.{◌∙◌, sym}
use Rattle.std.proofs.lemmas.Result.{IfOk-weaker}
use Rattle.vx_lower.proofs.pieces.combine.Goals as goal

pub returns-then-is_division-clause-code : goal.returns-then-is_division-clause-code
returns-then-is_division-clause-code c = IfOk-weaker c.quotient.result _ _ (λ t h ready. h ready (sym c.operation.ensures ∙ c.in-Some.is) (sym c.is_division.ensures ∙ c.if-is_division.true)) c.quotient.ensures.code

pub returns-then-is_division-clause-fits : goal.returns-then-is_division-clause-fits
returns-then-is_division-clause-fits c = IfOk-weaker c.quotient.result _ _ (λ t h. h (sym c.operation.ensures ∙ c.in-Some.is)) c.quotient.ensures.fits

pub returns-else-is_division-clause-code : goal.returns-else-is_division-clause-code
returns-else-is_division-clause-code c = IfOk-weaker c.single.result _ _ (λ t h ready. h ready (sym c.operation.ensures ∙ c.in-Some.is) (sym c.is_division.ensures ∙ c.if-is_division.false)) c.single.ensures.code

pub returns-else-is_division-clause-fits : goal.returns-else-is_division-clause-fits
returns-else-is_division-clause-fits c = IfOk-weaker c.single.result _ _ (λ t h. h (sym c.operation.ensures ∙ c.in-Some.is)) c.single.ensures.fits
