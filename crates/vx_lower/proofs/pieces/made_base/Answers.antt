use Rattle.vx_lower.proofs.PieceMaking.{made_base_of}
use Rattle.vx_lower.proofs.pieces.made_base.Goals as goal

pub returns-clause-code : goal.returns-clause-code
returns-clause-code c = made_base_of c.args.array c.args.from c.in_ok-to.to c.args.b.now c.fresh.new.self c.put.new.self c.in_ok-to.ensures c.in_ok-put.ensures.code
