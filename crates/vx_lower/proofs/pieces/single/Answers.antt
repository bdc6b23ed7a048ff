use Rattle.std.proofs.lemmas.Result.{IfOk-weaker}
use Rattle.vx_lower.proofs.FittingPieces.{single_well}
use Rattle.vx_lower.proofs.PieceMaking.{single_of}
use Rattle.vx_lower.proofs.pieces.single.Goals as goal

pub returns-clause-code : goal.returns-clause-code
returns-clause-code c = IfOk-weaker c.compute.result _ _ (λ t last r is whole. single_of c.args.operator c.args.code c.args.left c.args.right c.args.dest t c.args.b.now c.compute.new.b last is whole r) c.compute.ensures.code

pub returns-clause-fits : goal.returns-clause-fits
returns-clause-fits c = IfOk-weaker c.compute.result _ _ (λ t last. single_well c.args.operator c.args.code c.args.left c.args.right c.args.dest t c.args.b.now c.compute.new.b last) c.compute.ensures.steps
