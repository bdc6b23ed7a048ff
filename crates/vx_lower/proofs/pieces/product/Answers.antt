use Rattle.std.proofs.lemmas.Result.{IfOk-weaker}
use Rattle.vx_lower.proofs.FittingPieces.{product_well}
use Rattle.vx_lower.proofs.PieceMaking.{product_of}
use Rattle.vx_lower.proofs.pieces.product.Goals as goal

pub returns-clause-code : goal.returns-clause-code
returns-clause-code c = IfOk-weaker c.compute.result _ _ (λ t last. product_of c.args.left c.args.right c.args.dest t c.in_ok-u.u c.in_ok-v.v c.args.b.now c.fresh.new.self c.put.new.self c.fresh-2.new.self c.put-2.new.self c.compute.new.b c.in_ok-u.ensures c.in_ok-put.ensures.code c.in_ok-v.ensures c.in_ok-put-2.ensures.code last) c.compute.ensures.code

pub returns-clause-fits : goal.returns-clause-fits
returns-clause-fits c = IfOk-weaker c.compute.result _ _ (λ t last. product_well c.args.left c.args.right c.args.dest t c.in_ok-u.u c.in_ok-v.v c.args.b.now c.fresh.new.self c.put.new.self c.fresh-2.new.self c.put-2.new.self c.compute.new.b c.in_ok-u.ensures c.in_ok-put.ensures.steps c.in_ok-v.ensures c.in_ok-put-2.ensures.steps last) c.compute.ensures.steps
