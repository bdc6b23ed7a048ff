use Rattle.std.proofs.Common.{subst}
use Rattle.vx_dep.specs.Chains.{IsOn}
use Rattle.vx_dep.specs.Near.{AreCollected}
use Rattle.vx_dep.proofs.Nearby.{four_writers, ok_along}
use Rattle.vx_dep.proofs.near.Near.collect_writers.Goals as goal

pub returns : goal.returns
returns c =
    let keys = c.args.sight.now.keys in
    let near = c.args.self.now in
    let b = c.args.b.now in
    let one = c.args.places.now.items in
    let two = c.collect_on.new.places.items in
    let three = c.collect_on-2.new.places.items in
    let four = c.collect_on-3.new.places.items in
    let five = c.collect_on-4.new.places.items in
    let p = subst (λ n. AreCollected keys b (IsOn near.writers n) one two) c.row_of.ensures c.in_ok-collect_on.ensures in
    let q = subst (λ n. AreCollected keys b (IsOn near.writers n) two three) c.row_of-2.ensures c.in_ok-collect_on-2.ensures in
    let r = subst (λ n. AreCollected keys b (IsOn near.writers n) three four) c.row_of-3.ensures c.in_ok-collect_on-3.ensures in
    ok_along c.collect_on-4.result (λ s. four_writers keys b near one two three four five p q r (subst (λ n. AreCollected keys b (IsOn near.writers n) four five) c.row_of-4.ensures s)) c.collect_on-4.ensures
