use Rattle.std.proofs.Common.{◌∙◌}
use Rattle.std.proofs.lemmas.List.{take_all}
use Rattle.vx_flow.proofs.Copying.{copied_more}
use Rattle.vx_flow.proofs.copies.copied_joins.Goals as goal

pub loop-join-preserved : goal.loop-join-preserved
loop-join-preserved c = copied_more c.args.joins.now c.loop-join.copies c.push.new.self _ _ c.loop-join.join-index c.loop-join-test.true c.loop-join.invariant c.in_ok-push.ensures.ok (c.in_ok-copied_join.ensures ∙ c.join-item.is)

pub returns : goal.returns
returns c = c.loop-join.invariant ∙ take_all c.loop-join.join-index c.args.joins.now c.loop-join-test.false
