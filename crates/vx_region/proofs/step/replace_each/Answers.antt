use Rattle.std.proofs.Common.{◌<◌, ◌+◌, ◌-◌, refl, sym, ◌∙◌, subst}
use Rattle.vx_mixed.specs.Layout.{IsDone}
use Rattle.vx_region.specs.declared.budget.Budget.{Budget}
use Rattle.vx_region.specs.Ending.{unused_in}
use Rattle.vx_region.specs.Regions.{ReplacesAll, ReplacesOne}
use Rattle.vx_region.specs.Stepping.{Stepped}
use Rattle.vx_mixed.specs.Routes.{live_values}
use Rattle.vx_region.proofs.LiveSteps.{tells_after}
use Rattle.vx_region.proofs.Falls.{plans_grow, measure_falls}
use Rattle.vx_region.proofs.Steps.{stepped_start, stepped_all, stepped_more}
use Rattle.vx_region.proofs.step.replace_each.Goals as goal

pub step-init : goal.step-init
step-init c =
    let machine = c.args.machine.now in
    let counts = c.args.counts.now in
    let cap = c.args.budget.now.cap in
    let used = c.args.budget.now.used in
    let m = c.args.mixed.now in (
      subst (λ z. Stepped machine counts cap m used z m used) (sym c.new-plans.ensures) (stepped_start machine counts cap used m c.requires.graph.0 c.keeps_valid.ensures c.requires.graph.1),
      refl,
      c.requires.live,
    )

pub returns-in-Finished-clause-regions : goal.returns-in-Finished-clause-regions
returns-in-Finished-clause-regions c =
    let machine = c.args.machine.now in
    let counts = c.args.counts.now in
    let cap = c.args.budget.now.cap in
    let used = c.args.budget.now.used in
    let first = c.args.mixed.now in
    let m = c.step.mixed in
    let last = c.replace_next.new.mixed in
    let finished = rw c.in-Finished.is at c.in_ok-replace_next.ensures.finished in
    let all : ReplacesAll machine counts cap first used c.step.plans m c.step.budget.used = stepped_all machine counts cap used first m c.step.budget.used c.step.plans c.step.invariant.0 (subst IsDone finished.1 finished.0) in
    subst (λ (b : Budget). ReplacesAll machine counts cap first used c.step.plans last b.used) (sym finished.2)
    (subst (λ z. ReplacesAll machine counts cap first used c.step.plans z c.step.budget.used) (sym finished.1) all)

pub step-smaller : goal.step-smaller
step-smaller c =
    let machine = c.args.machine.now in
    let counts = c.args.counts.now in
    let cap = c.step.budget.cap in
    let used = c.step.budget.used in
    let more = c.replace_next.new.budget.used in
    let m = c.step.mixed in
    let next = c.replace_next.new.mixed in
    let s = c.step.invariant.0 in
    let one : ReplacesOne machine counts cap m used c.in-Replaced.plan next more = rw c.in-Replaced.is at c.in_ok-replace_next.ensures.replaced in
    let falls = (measure_falls machine cap used more m next (plans_grow c.assigned_operations_stand.ensures machine counts cap used more s.graph m next c.in-Replaced.plan s.valid s.is one)).0 in
    subst (λ k. unused_in next.nodes + (k - more) < unused_in m.nodes + (cap - used)) (sym c.in_ok-replace_next.ensures.same_cap) falls

pub step-preserved : goal.step-preserved
step-preserved c =
    let machine = c.args.machine.now in
    let counts = c.args.counts.now in
    let cap = c.args.budget.now.cap in
    let used = c.args.budget.now.used in
    let first = c.args.mixed.now in
    let m = c.step.mixed in
    let next = c.replace_next.new.mixed in
    let more = c.replace_next.new.budget.used in
    let one : ReplacesOne machine counts c.step.budget.cap m c.step.budget.used c.in-Replaced.plan next more = rw c.in-Replaced.is at c.in_ok-replace_next.ensures.replaced in
    let here : ReplacesOne machine counts cap m c.step.budget.used c.in-Replaced.plan next more = subst (λ k. ReplacesOne machine counts k m c.step.budget.used c.in-Replaced.plan next more) c.step.invariant.1 one in (
      subst (λ z. Stepped machine counts cap first used z next more) (sym c.in_ok-push-in-Replaced.ensures.ok) (stepped_more machine counts cap used first c.assigned_operations_stand.ensures m next c.step.budget.used more c.step.plans c.in-Replaced.plan c.step.invariant.0 here),
      c.in_ok-replace_next.ensures.same_cap ∙ c.step.invariant.1,
      tells_after c.assigned_operations_stand.ensures machine counts cap c.step.budget.used more c.step.invariant.0.graph m next c.in-Replaced.plan c.step.invariant.0.valid c.step.invariant.0.is here (live_values c.args.live.now) c.step.invariant.2,
    )
