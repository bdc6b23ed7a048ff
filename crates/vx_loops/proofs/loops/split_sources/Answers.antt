use Rattle.std.proofs.Common.{ap, refl, subst, ◌∙◌}
use Rattle.vx_flow.specs.Effects.{IsIn}
use Rattle.vx_loops.specs.declared.loops.Sources.{Sources}
use Rattle.vx_flow.specs.Rows.{row_at}
use Rattle.vx_loops.proofs.Orders.{each_more, in_at, none_from}
use Rattle.vx_loops.proofs.loops.split_sources.Goals as goal
use Rattle.vx_loops.proofs.loops.split_sources.Goals.{then-rank+in_ok-push, else-rank+in_ok-push-2}

pub loop-source-init : goal.loop-source-init
loop-source-init c = none_from _ _ c.new.ensures.items

pub loop-source-preserved : goal.loop-source-preserved
loop-source-preserved c = elim c.if-rank.branch [
  | then-rank+in_ok-push w ↦ λ b i. c.loop-source.invariant b (subst (IsIn b) (ap (λ (z : Sources). z.before.items) w.sources-is) i)
  | else-rank+in_ok-push-2 w ↦
      each_more (row_at c.args.loops.now.sources.items c.args.block) c.loop-source.sources.before.items c.if-rank.sources.before.items _ c.loop-source.invariant
      (ap (λ (z : Sources). z.before.items) w.sources-is ∙ w.in_ok-push-2.ensures.items)
      (subst (IsIn _) c.leading_to-source-items.ensures (in_at c.leading_to-source-items.result.now c.loop-source.source-index _ c.loop-source-test.true refl))
]
