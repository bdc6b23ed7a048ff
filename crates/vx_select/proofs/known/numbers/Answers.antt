use Rattle.std.proofs.Common.{true}
use Rattle.vx_select.proofs.Listings.{listing_begun, listing_put}
use Rattle.vx_select.proofs.Knowing.{always_next}
use Rattle.vx_select.proofs.known.numbers.Goals as goal

pub loop-number-init : goal.loop-number-init
loop-number-init c = listing_begun (λ v. true) c.args.count c.new-numbers.result c.new-numbers.ensures

pub loop-number-preserved : goal.loop-number-preserved
loop-number-preserved c = listing_put (λ v. true) c.args.count c.loop-number.number c.loop-number.numbers c.loop-number.invariant c.loop-number.number c.push.new.self (always_next c.loop-number.number) c.loop-number-test.true c.in_ok-push.ensures.ok
