use Rattle.std.proofs.Common.{arith}
use Rattle.vx_select.specs.Values.{either_writing}
use Rattle.vx_select.proofs.Listings.{listing_begun, listing_put, listing_none, listing_past}
use Rattle.vx_select.proofs.written.written.Goals as goal

pub values-init : goal.values-init
values-init c = listing_begun (either_writing c.args.left.now c.args.right.now) c.args.count c.new-values.result.items c.new-values.ensures.items

pub returns-then-value-count : goal.returns-then-value-count
returns-then-value-count c = listing_past (either_writing c.args.left.now c.args.right.now) c.args.count c.values.from c.values.values.items c.values.invariant c.in-Some.value c.in-Some.ensures c.if-value-count.true

pub values-preserved : goal.values-preserved
values-preserved c =
    listing_put (either_writing c.args.left.now c.args.right.now) c.args.count c.values.from c.values.values.items c.values.invariant c.in-Some.value c.push.new.self.items c.in-Some.ensures (let h = c.if-value-count.false in omega arith)
    c.in_ok-push-in-Some.ensures.items

pub returns-in-None : goal.returns-in-None
returns-in-None c = listing_none (either_writing c.args.left.now c.args.right.now) c.args.count c.values.from c.values.values.items c.values.invariant c.in-None.ensures
