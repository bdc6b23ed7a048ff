use Rattle.std.proofs.Common.{[], ◌∷◌, ap, refl, sym}
use Rattle.vx_mixed.specs.Routes.{region_starts}
use Rattle.vx_mixed.proofs.Turns.{no_turn, turn}
use Rattle.vx_mixed.proofs.routes.starts_of.Goals as goal

pub loop-region-preserved : goal.loop-region-preserved
loop-region-preserved c =
    let node = c.loop-region.node in
    turn (region_starts node) c.args.regions.now c.loop-region.region-index c.loop-region.starts _ c.loop-region.invariant (region_starts c.in_ok-node.node) (node ∷ []) c.push.new.self c.region-item.result _
    (λ ys. ap (λ n. node ∷ region_starts n ys) (sym c.in_ok-node.ensures)) c.region-item.is c.loop-region-test.true c.in_ok-push.ensures.ok

pub returns : goal.returns
returns c = no_turn (region_starts c.loop-region.node) c.args.regions.now c.loop-region.region-index c.loop-region.starts _ c.loop-region.invariant refl c.loop-region-test.false
