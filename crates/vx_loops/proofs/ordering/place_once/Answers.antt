use Rattle.std.proofs.Common.{◌≡◌, ◌<◌, ◌^◌, true, false, length, slice_set, subst, sym, ◌∙◌, arith}
use Rattle.std.proofs.lemmas.List.{get_or_read}
use Rattle.vx_flow.specs.Rows.{is_marked}
use Rattle.vx_loops.specs.Order.{Placed}
use Rattle.vx_loops.proofs.Orders.{marks_stay, placed_more}
use Rattle.vx_loops.proofs.ordering.place_once.Goals as goal

pub returns-in_ok-push-clause-placed : goal.returns-in_ok-push-clause-placed
returns-in_ok-push-clause-placed c =
    let there : c.args.block < length c.args.placed.now.items = omega (arith, c.if-place-len.true, c.len.ensures, c.args.placed.now.ok.0) in
    let free : is_marked c.args.placed.now.items c.args.block ≡ false = sym (get_or_read c.args.placed.now.items c.args.block c.index.result.now there c.index.ensures false) ∙ c.if-not-index.true in
    let small : c.args.block < 2 ^ 32 = omega (arith, c.ranges.block.fits) in
    subst (Placed (slice_set c.args.placed.now.items c.args.block true)) (sym c.in_ok-push.ensures.items) (placed_more c.args.placed.now.items c.args.order.now.items c.args.block c.requires there free small)

pub returns-in_ok-push-clause-stays : goal.returns-in_ok-push-clause-stays
returns-in_ok-push-clause-stays c =
    let there : c.args.block < length c.args.placed.now.items = omega (arith, c.if-place-len.true, c.len.ensures, c.args.placed.now.ok.0) in
    marks_stay c.args.placed.now.items c.args.block there
