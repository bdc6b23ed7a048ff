use Rattle.vx_lower.proofs.Emitting.{emits_read}
use Rattle.vx_lower.proofs.FittingTrees.{read_well}
use Rattle.vx_lower.proofs.expressions.read.Goals as goal

pub returns-clause-code : goal.returns-clause-code
returns-clause-code c = emits_read c.args.words.now c.in_ok-v.v c.in_ok-c.c c.in_ok-t.t c.args.dest c.args.b.now c.fresh.new.self c.put.new.self c.fresh-2.new.self c.guard.new.self c.input.new.b c.in_ok-v.ensures c.in_ok-put.ensures.code c.in_ok-c.ensures c.in_ok-guard.ensures.code c.in_ok-t.ensures.code

pub returns-clause-fits : goal.returns-clause-fits
returns-clause-fits c = read_well c.in_ok-v.v c.in_ok-c.c c.in_ok-t.t c.args.dest c.args.b.now c.fresh.new.self c.put.new.self c.fresh-2.new.self c.guard.new.self c.input.new.b c.in_ok-v.ensures c.in_ok-put.ensures.steps c.in_ok-c.ensures c.in_ok-guard.ensures.steps c.in_ok-t.ensures.steps
