use Rattle.std.proofs.lemmas.Result.{IfOk-weaker}
use Rattle.vx_lower.proofs.FittingPieces.{quotient_well}
use Rattle.vx_lower.proofs.PieceMaking.{quotient_of}
use Rattle.vx_lower.proofs.pieces.quotient.Goals as goal

pub returns-clause-code : goal.returns-clause-code
returns-clause-code c = IfOk-weaker c.compute.result _ _ (λ t last. quotient_of c.args.operator c.args.code c.args.left c.args.right c.args.dest t c.in_ok-c.c c.args.b.now c.fresh.new.self c.guard.new.self c.compute.new.b c.in_ok-c.ensures c.in_ok-guard.ensures.code last) c.compute.ensures.code

pub returns-clause-fits : goal.returns-clause-fits
returns-clause-fits c = IfOk-weaker c.compute.result _ _ (λ t last. quotient_well c.args.operator c.args.code c.args.left c.args.right c.args.dest t c.in_ok-c.c c.args.b.now c.fresh.new.self c.guard.new.self c.compute.new.b c.in_ok-c.ensures c.in_ok-guard.ensures.steps last) c.compute.ensures.steps
