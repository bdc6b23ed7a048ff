use Rattle.std.proofs.Common.{◌++◌, ap, sym}
use Rattle.vx_mixed.specs.Routes.{region_routes, word_routes}
use Rattle.vx_mixed.proofs.Turns.{turn}
use Rattle.vx_mixed.proofs.routes.push_regions.Goals as goal

pub loop-region-preserved : goal.loop-region-preserved
loop-region-preserved c =
    let node = c.loop-region.node in
    let region = c.region-item.result in
    let words = word_routes node region.last region.words in
    turn (region_routes node) c.args.regions.now c.loop-region.region-index c.loop-region.routes _ c.loop-region.invariant (region_routes c.in_ok-node.node) words c.push_region.new.routes region _
    (λ ys. ap (λ n. words ++ region_routes n ys) (sym c.in_ok-node.ensures)) c.region-item.is c.loop-region-test.true c.in_ok-push_region.ensures
