use Rattle.vx_flow.specs.declared.graph.Op.TheVariants.{More}
use Rattle.vx_lower.proofs.PieceMaking.{lasts_of}
use Rattle.vx_lower.proofs.pieces.more.Goals as goal

pub returns-clause-code : goal.returns-clause-code
returns-clause-code c = lasts_of c.args.dest c.in_ok-to.to (More c.in_ok-to.to) c.args.b.now c.target.new.b c.put.new.self c.in_ok-to.ensures c.in_ok-put.ensures.code
