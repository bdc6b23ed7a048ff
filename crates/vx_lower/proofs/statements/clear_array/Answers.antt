use Rattle.vx_lower.proofs.StatementMaking.{plain_zeroes}
use Rattle.vx_lower.proofs.FittingStatements.{clears_array_well}
use Rattle.vx_lower.proofs.statements.clear_array.Goals as goal

pub returns-clause-code : goal.returns-clause-code
returns-clause-code c =
    plain_zeroes c.args.words.now c.args.array c.in_ok-i.i c.in_ok-head.head c.in_ok-c.c c.in_ok-end.end c.of-size.result c.args.b.now c.clear.new.b c.enter.new.b c.fresh.new.self c.branch-b.new.self c.clear_word.new.b c.close.new.self c.of-size.ensures c.in_ok-i.ensures.code c.in_ok-head.ensures c.in_ok-c.ensures c.in_ok-end.ensures.code c.in_ok-clear_word.ensures.code c.close.ensures

pub returns-clause-fits : goal.returns-clause-fits
returns-clause-fits c =
    clears_array_well c.args.array c.in_ok-i.i c.in_ok-head.head c.in_ok-c.c c.in_ok-end.end c.of-size.result c.args.b.now c.clear.new.b c.enter.new.b c.fresh.new.self c.branch-b.new.self c.clear_word.new.b c.close.new.self c.of-size.ensures c.in_ok-i.ensures.steps c.in_ok-head.ensures c.in_ok-c.ensures c.in_ok-end.ensures.steps (c.in_ok-clear_word.ensures.fits c.args.words.now) c.close.ensures
