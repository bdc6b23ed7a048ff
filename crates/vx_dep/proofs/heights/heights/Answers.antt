use Rattle.std.proofs.Common.{rules, ◌≡◌, ◌<◌, ◌≤◌, ◌+◌, ◌-◌, length, refl, sym, ap, subst, ◌∙◌, arith}
use Rattle.vx_dep.specs.Delays.{AreHeights}
use Rattle.vx_dep.specs.Earlier.{list_at, raised}
use Rattle.vx_dep.specs.Heights.{at}
use Rattle.vx_dep.proofs.Rising.{none_from, one_from, all_from}
use Rattle.vx_dep.proofs.heights.heights.Goals as goal

pub rise-preserved : goal.rise-preserved
rise-preserved c =
    let s = c.args.sight.now in
    let most = c.rise.invariant.1 in
    let some : 0 < c.rise.place = c.rise-test.true in
    let back : c.rise.place ≡ (c.rise.place - 1) + 1 = omega (arith, some) in
    let height : c.height_at-height.result ≡ at c.rise.heights.items (c.rise.place - 1) = c.height_at-height.ensures ∙ ap (λ hs. at hs (c.rise.place - 1)) c.as_slice.ensures.value in
    let risen : c.raise.new.heights.items ≡ raised c.height_at-height.result c.rise.heights.items (list_at c.args.lists.now (c.rise.place - 1)) = c.in_ok-raise.ensures ∙ ap (raised c.height_at-height.result c.rise.heights.items) c.list_at.ensures in
    (one_from s.machine s.mode s.trace.now c.rise.heights.items c.raise.new.heights.items c.rise.place (c.rise.place - 1) c.height_at-height.result c.args.lists.now c.requires c.rise.invariant.0 back height risen, omega (arith, most))

pub returns : goal.returns
returns c =
    let s = c.args.sight.now in
    let same : c.in_ok-from_vec.field-0 ≡ c.rise.heights.items = search rules in
    let last : c.rise.place ≤ 0 = c.rise-test.false in
    subst (λ hs. AreHeights s.machine s.mode s.trace.now (at hs)) (sym same) (all_from s.machine s.mode s.trace.now c.rise.heights.items c.rise.place last c.rise.invariant.0)

pub rise-init : goal.rise-init
rise-init c =
    let s = c.args.sight.now in
    let count = length c.args.lists.now in
    (none_from s.machine s.mode s.trace.now c.in_ok-heights.heights.items count count c.in_ok-heights.ensures c.requires.each refl, omega arith)
