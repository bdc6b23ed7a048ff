use Rattle.std.proofs.Common.{◌∙◌, ap, sym, take_all}
use Rattle.std.specs.List.{list_all}
use Rattle.vx_fold.specs.Folding.{numbers_of, settles}
use Rattle.vx_fold.proofs.Alls.{one_fails, one_more}
use Rattle.vx_fold.proofs.settled.all_settle.Goals as goal

pub loop-op-preserved : goal.loop-op-preserved
loop-op-preserved c = one_more (settles (numbers_of c.args.numbers.now)) c.args.ops.now c.loop-op.op-index _ c.settles.result c.loop-op-test.true c.loop-op.invariant c.settles.ensures c.if-not-settles.false

pub returns-then-not-settles : goal.returns-then-not-settles
returns-then-not-settles c = one_fails (settles (numbers_of c.args.numbers.now)) c.args.ops.now c.loop-op.op-index _ c.settles.result c.loop-op-test.true c.settles.ensures c.if-not-settles.true

pub returns : goal.returns
returns c = sym (ap (list_all (settles (numbers_of c.args.numbers.now))) (sym (take_all c.loop-op.op-index c.args.ops.now c.loop-op-test.false)) ∙ c.loop-op.invariant)
