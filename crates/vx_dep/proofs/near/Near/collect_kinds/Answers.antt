use Rattle.vx_dep.proofs.Nearby.{four_kinds, ok_along}
use Rattle.vx_dep.proofs.near.Near.collect_kinds.Goals as goal

pub returns : goal.returns
returns c =
    ok_along c.collect_on-2.result
    (λ s. four_kinds c.args.sight.now.keys c.args.b.now c.args.self.now c.args.places.now.items c.collect_on.new.places.items c.collect_if.new.places.items c.collect_if-2.new.places.items c.collect_on-2.new.places.items c.in_ok-collect_on.ensures c.in_ok-collect_if.ensures c.in_ok-collect_if-2.ensures s)
    c.collect_on-2.ensures
