use Rattle.std.proofs.Common.{◌∙◌, ap, sym, take_all}
use Rattle.std.specs.List.{list_all}
use Rattle.vx_fold.specs.Thinning.{are_read, unread_of}
use Rattle.vx_flow.specs.Effects.{value_in}
use Rattle.vx_fold.proofs.Alls.{one_fails, one_more}
use Rattle.vx_fold.proofs.reads.are_all_read.Goals as goal

pub loop-operand-preserved : goal.loop-operand-preserved
loop-operand-preserved c = one_more (λ x. are_read (unread_of c.args.needed.now) (value_in x)) c.args.operands.now c.loop-operand.operand-index _ c.is_read.result c.loop-operand-test.true c.loop-operand.invariant c.is_read.ensures c.if-not-is_read.false

pub returns-then-not-is_read : goal.returns-then-not-is_read
returns-then-not-is_read c = one_fails (λ x. are_read (unread_of c.args.needed.now) (value_in x)) c.args.operands.now c.loop-operand.operand-index _ c.is_read.result c.loop-operand-test.true c.is_read.ensures c.if-not-is_read.true

pub returns : goal.returns
returns c = sym (ap (list_all (λ x. are_read (unread_of c.args.needed.now) (value_in x))) (sym (take_all c.loop-operand.operand-index c.args.operands.now c.loop-operand-test.false)) ∙ c.loop-operand.invariant)
