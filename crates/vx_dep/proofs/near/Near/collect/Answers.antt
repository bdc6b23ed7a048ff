use Rattle.std.proofs.Common.{subst}
use Rattle.vx_dep.specs.Chains.{IsOn}
use Rattle.vx_dep.specs.Near.{AreCollected}
use Rattle.vx_dep.proofs.Nearby.{all_collected, ok_along}
use Rattle.vx_dep.proofs.near.Near.collect.Goals as goal

pub returns : goal.returns
returns c =
    let keys = c.args.sight.now.keys in
    let near = c.args.self.now in
    let b = c.args.b.now in
    let middle = c.collect_writers.new.places.items in
    let behind = c.collect_on.new.places.items in
    ok_along c.collect_kinds.result
    (λ k. all_collected keys near c.args.sight.now.mode b c.requires c.clear.new.self.items middle behind c.collect_kinds.new.places.items c.in_ok-collect_writers.ensures (subst (λ n. AreCollected keys b (IsOn near.readers n) middle behind) c.row_of.ensures c.in_ok-collect_on.ensures) k)
    c.collect_kinds.ensures
