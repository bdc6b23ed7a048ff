use Rattle.std.proofs.Common.{◌≡◌, ◌+◌, ◌∷◌, ◌++◌, [], length, map, sym, ap, ◌∙◌, arith}
use Rattle.vx_flow.specs.Walk.{numbers}
use Rattle.vx_mixed.specs.Layout.{region_place}
use Rattle.vx_layout.proofs.LayingSteps.{starts_turn, starts_begin}
use Rattle.vx_layout.proofs.words.push_starts.Goals as goal

pub loop-region-init : goal.loop-region-init
loop-region-init c = starts_begin c.args.regions.now c.push.new.self.items (c.in_ok-push.ensures.items ∙ ap (λ z. z ++ 0 ∷ []) c.requires)

pub loop-region-preserved : goal.loop-region-preserved
loop-region-preserved c =
    let x = c.region-item.result in
    starts_turn c.args.regions.now c.loop-region.region-index _ _ _ x x _ _ c.loop-region-test.true (sym c.region-item.is) c.loop-region.invariant.0 c.in_ok-region_length.ensures c.in_ok-start.ensures c.loop-region.invariant.1 c.in_ok-push-2.ensures.items

pub returns : goal.returns
returns c =
    let regions = c.args.regions.now in
    let all : c.loop-region.region-index ≡ length regions = omega (arith, c.loop-region-test.false, c.loop-region.auto.region-index-end) in
    c.loop-region.invariant.1 ∙ ap (λ n. map (region_place regions) (numbers 0 (n + 1))) all
