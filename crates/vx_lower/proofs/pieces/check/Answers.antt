use Rattle.vx_lower.proofs.FittingPieces.{checks_well}
use Rattle.vx_lower.proofs.PieceMaking.{checked_of}
use Rattle.vx_lower.proofs.pieces.check.Goals as goal

pub returns-clause-code : goal.returns-clause-code
returns-clause-code c = checked_of c.args.words.now c.args.array c.args.index c.in_ok-t.t c.in_ok-c.c c.of-size.result c.place-op.result c.args.b.now c.fresh.new.self c.put.new.self c.fresh-2.new.self c.guard.new.self c.of-size.ensures c.place-op.ensures c.in_ok-t.ensures c.in_ok-put.ensures.code c.in_ok-c.ensures c.in_ok-guard.ensures.code

pub returns-clause-fits : goal.returns-clause-fits
returns-clause-fits c =
    checks_well c.args.array c.args.index c.in_ok-t.t c.in_ok-c.c c.of-size.result c.place-op.result c.args.b.now c.fresh.new.self c.put.new.self c.fresh-2.new.self c.guard.new.self c.of-size.ensures c.place-op.ensures c.in_ok-t.ensures c.in_ok-put.ensures.steps c.in_ok-c.ensures c.in_ok-guard.ensures.steps
