use Rattle.std.proofs.Common.{sym, ◌∙◌}
use Rattle.std.proofs.lemmas.Result.{IfOk-weaker}
use Rattle.vx_lower.proofs.FittingPieces.{global_stands, own_stands, handed_stands}
use Rattle.vx_lower.proofs.PieceMaking.{stands_global, stands_own, stands_handed}
use Rattle.vx_lower.proofs.pieces.stand.Goals as goal

pub returns-in-GlobalArray-clause-code : goal.returns-in-GlobalArray-clause-code
returns-in-GlobalArray-clause-code c = IfOk-weaker c.made_base.result _ _ (λ v m. stands_global c.args.words.now c.args.array c.in-GlobalArray.field-0 v c.args.b.now c.made_base.new.b (sym c.seen.ensures ∙ c.in-GlobalArray.is) m) c.made_base.ensures.code

pub returns-in-GlobalArray-clause-fits : goal.returns-in-GlobalArray-clause-fits
returns-in-GlobalArray-clause-fits c = IfOk-weaker c.made_base.result _ _ (λ v m. global_stands c.args.array c.in-GlobalArray.field-0 v c.args.b.now c.made_base.new.b (sym c.seen.ensures ∙ c.in-GlobalArray.is) m) c.made_base.ensures.steps

pub returns-in-OwnArray-clause-code : goal.returns-in-OwnArray-clause-code
returns-in-OwnArray-clause-code c = IfOk-weaker c.made_base-in-OwnArray.result _ _ (λ v m. stands_own c.args.words.now c.args.array c.in-OwnArray.field-0 v c.args.b.now c.made_base-in-OwnArray.new.b (sym c.seen.ensures ∙ c.in-OwnArray.is) m) c.made_base-in-OwnArray.ensures.code

pub returns-in-OwnArray-clause-fits : goal.returns-in-OwnArray-clause-fits
returns-in-OwnArray-clause-fits c = IfOk-weaker c.made_base-in-OwnArray.result _ _ (λ v m. own_stands c.args.array c.in-OwnArray.field-0 v c.args.b.now c.made_base-in-OwnArray.new.b (sym c.seen.ensures ∙ c.in-OwnArray.is) m) c.made_base-in-OwnArray.ensures.steps

pub returns-in-Handed-clause-code : goal.returns-in-Handed-clause-code
returns-in-Handed-clause-code c = stands_handed c.args.words.now c.args.array c.in-Handed.base c.in-Handed.size c.args.b.now (sym c.seen.ensures ∙ c.in-Handed.is)

pub returns-in-Handed-clause-fits : goal.returns-in-Handed-clause-fits
returns-in-Handed-clause-fits c = handed_stands c.args.array c.in-Handed.base c.in-Handed.size c.args.b.now (sym c.seen.ensures ∙ c.in-Handed.is)
