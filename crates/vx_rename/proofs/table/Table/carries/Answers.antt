use Rattle.std.proofs.Common.{◌∙◌, ap, sym, take_all}
use Rattle.std.specs.List.{list_all}
use Rattle.vx_rename.specs.Renaming.{is_at}
use Rattle.vx_rename.specs.Making.{standing}
use Rattle.vx_rename.proofs.Alls.{one_fails, one_more}
use Rattle.vx_rename.proofs.table.Table.carries.Goals as goal

pub loop-at-preserved : goal.loop-at-preserved
loop-at-preserved c = one_more (is_at (standing c.args.self.now)) c.args.start.now c.loop-at.at-index _ c.is_at.result c.loop-at-test.true c.loop-at.invariant c.is_at.ensures c.if-not-is_at.false

pub returns-then-not-is_at : goal.returns-then-not-is_at
returns-then-not-is_at c = one_fails (is_at (standing c.args.self.now)) c.args.start.now c.loop-at.at-index _ c.is_at.result c.loop-at-test.true c.is_at.ensures c.if-not-is_at.true

pub returns : goal.returns
returns c = sym (ap (list_all (is_at (standing c.args.self.now))) (sym (take_all c.loop-at.at-index c.args.start.now c.loop-at-test.false)) ∙ c.loop-at.invariant)
