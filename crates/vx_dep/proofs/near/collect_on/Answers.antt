use Rattle.std.proofs.Common.{◌≡◌, ◌∙◌, ◌+◌, ◌-◌, Some, slice_get, ap, sym, arith}
use Rattle.std.proofs.lemmas.Option.{slice_get-get_or}
use Rattle.vx_dep.specs.Links.{head_at}
use Rattle.vx_dep.proofs.Nearby.{one_walked}
use Rattle.vx_dep.proofs.near.collect_on.Goals as goal

pub walk-preserved : goal.walk-preserved
walk-preserved c =
    let chains = c.args.chains.now in
    let test = c.walk-test.true in
    let at : c.walk.at ≡ (c.walk.at - 1) + 1 = omega (arith, test) in
    let within = c.walk.invariant.within in
    let there : slice_get chains.links.items (c.walk.at - 1) ≡ Some c.index-link.result.now = slice_get-get_or chains.links.items (c.walk.at - 1) c.index-link.result.now (omega (arith, within, test)) ∙ ap Some (sym c.index-link.ensures) in
    one_walked c.args.sight.now.keys c.args.b.now chains.links.items (head_at chains.heads.items c.args.row) c.walk.at (c.walk.at - 1) c.index-link.result.now c.args.places.now.items c.walk.places.items c.collect_one.new.places.items
    c.walk.invariant at there (chains.are_before (c.walk.at - 1) c.index-link.result.now there) c.in_ok-collect_one.ensures
