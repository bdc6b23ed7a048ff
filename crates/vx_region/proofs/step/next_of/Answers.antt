use Rattle.std.proofs.Common.{◌≡◌, sym, subst}
use Rattle.vx_trace.specs.Picked.{Picked, count_of_block}
use Rattle.vx_mixed.specs.TraceOf.{CanTrace}
use Rattle.vx_region.specs.Stepping.{IsNextBy, IsOnClusters}
use Rattle.vx_region.proofs.Steps.{picked_can, is_next_on}
use Rattle.vx_region.proofs.step.next_of.Goals as goal

pub on_clusters-requires-clause-can : goal.on_clusters-requires-clause-can
on_clusters-requires-clause-can c = subst (CanTrace c.args.mixed.now) (sym c.as_slice.ensures) (picked_can c.args.mixed.now c.args.counts.now c.args.blocks c.requires.valid c.requires.graph.1.headed c.requires.picked)

pub returns-in-Ok : goal.returns-in-Ok
returns-in-Ok c =
    let m = c.args.mixed.now in
    let counts = c.args.counts.now in
    let machine = c.args.machine.now in
    let blocks = c.args.blocks in
    let budget = c.args.budget in
    let on = c.in_ok-on.on in
    let twice = c.in-Ok.twice in
    let count = c.count_of_trace-count.result in
    let next = c.next_by.result in
    let is : IsOnClusters machine m blocks on = subst (λ z. IsOnClusters machine m z on) c.as_slice.ensures c.in_ok-on.ensures in
    let counted : (p : Picked m counts blocks) → count ≡ count_of_block m counts p.seed = subst (λ z. (p : Picked m counts z) → count ≡ count_of_block m counts p.seed) c.as_slice-in-Ok.ensures c.count_of_trace-count.ensures in
    is_next_on c.assigned_operations_stand.ensures machine counts budget.cap budget.used c.requires.graph.0 m blocks count on twice.trace next c.keeps_ranges.ensures c.requires.valid c.requires.graph.1 c.requires.picked (counted c.requires.picked) is
    c.in-Ok.ensures.placed (subst (λ n. IsNextBy n blocks count on.homes twice.trace next) c.function.ensures c.next_by.ensures)
