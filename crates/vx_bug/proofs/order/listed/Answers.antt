use Rattle.std.proofs.Common.{◌≡◌, ◌<◌, ◌+◌, ◌-◌, suc, length, sym, ◌∙◌, ap, arith, rules, reverse}
use Rattle.vx_flow.specs.Walk.{numbers}
use Rattle.vx_bug.specs.Clusters.{visit, visit_each}
use Rattle.vx_bug.proofs.Visiting.{walk_more}
use Rattle.vx_bug.proofs.order.listed.Goals as goal

pub walk-preserved : goal.walk-preserved
walk-preserved c =
    let t = c.args.trace.now in
    let some : 0 < c.walk.place = omega arith in
    let deep : c.len-depth.result + 1 ≡ suc (length t.ops) = omega (arith, c.len-depth.ensures.len) in
    let turn : c.visit.new.order ≡ visit (c.len-depth.result + 1) t (c.walk.place - 1) c.walk.order = search rules in
    let so : c.visit.new.order ≡ visit (suc (length t.ops)) t (c.walk.place - 1) c.walk.order = turn ∙ ap (λ d. visit d t (c.walk.place - 1) c.walk.order) deep in
    record {
      left = ap (visit_each (visit (suc (length t.ops)) t) (reverse (numbers 0 (c.walk.place - 1)))) so ∙ sym (walk_more (visit (suc (length t.ops)) t) c.walk.place c.walk.order some) ∙ c.walk.invariant.left;
      marks = c.in_ok-visit.ensures.marks;
    }
