use Rattle.std.proofs.Common.{◌∙◌, ap, sym, take_all}
use Rattle.std.specs.List.{list_all}
use Rattle.vx_flow.specs.Effects.{value_in}
use Rattle.vx_rename.specs.Renaming.{all_stand}
use Rattle.vx_rename.specs.Making.{standing}
use Rattle.vx_rename.proofs.Alls.{one_fails, one_more}
use Rattle.vx_rename.proofs.table.Table.operands_stand.Goals as goal

pub loop-operand-preserved : goal.loop-operand-preserved
loop-operand-preserved c = one_more (λ x. all_stand (standing c.args.self.now) (value_in x)) c.args.operands.now c.loop-operand.operand-index _ c.operand_stands.result c.loop-operand-test.true c.loop-operand.invariant c.operand_stands.ensures c.if-not-operand_stands.false

pub returns-then-not-operand_stands : goal.returns-then-not-operand_stands
returns-then-not-operand_stands c = one_fails (λ x. all_stand (standing c.args.self.now) (value_in x)) c.args.operands.now c.loop-operand.operand-index _ c.operand_stands.result c.loop-operand-test.true c.operand_stands.ensures c.if-not-operand_stands.true

pub returns : goal.returns
returns c = sym (ap (list_all (λ x. all_stand (standing c.args.self.now) (value_in x))) (sym (take_all c.loop-operand.operand-index c.args.operands.now c.loop-operand-test.false)) ∙ c.loop-operand.invariant)
