use Rattle.vx_lower.proofs.StatementMaking.{clears_word}
use Rattle.vx_lower.proofs.FittingStatements.{clears_word_well}
use Rattle.vx_lower.proofs.statements.clear_word.Goals as goal

pub returns-clause-code : goal.returns-clause-code
returns-clause-code c = clears_word c.args.array c.args.i c.in_ok-t.t c.in_ok-compute.field-0 c.args.b.now c.fresh.new.self c.put.new.self c.put-2.new.self c.compute.new.b c.in_ok-t.ensures c.in_ok-put.ensures.code c.in_ok-put-2.ensures.code c.in_ok-compute.ensures.code

pub returns-clause-fits : goal.returns-clause-fits
returns-clause-fits c = λ words. clears_word_well c.args.array c.args.i c.in_ok-t.t c.in_ok-compute.field-0 c.args.b.now c.fresh.new.self c.put.new.self c.put-2.new.self c.compute.new.b c.in_ok-t.ensures c.in_ok-put.ensures.steps c.in_ok-put-2.ensures.steps c.in_ok-compute.ensures.steps
