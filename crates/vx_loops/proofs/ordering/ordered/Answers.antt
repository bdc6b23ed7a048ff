use Rattle.std.proofs.Common.{◌≡◌, ◌∙◌, ◌<◌, ap, false, length, replicate, subst, sym}
use Rattle.std.proofs.lemmas.List.{length-replicate}
use Rattle.vx_loops.specs.Order.{Placed}
use Rattle.vx_loops.proofs.Orders.{each_once, placed_none}
use Rattle.vx_loops.proofs.ordering.ordered.Goals as goal

pub append_reversed-requires : goal.append_reversed-requires
append_reversed-requires c =
    subst (λ z. Placed z c.new-order.result.items) (sym (c.in_ok-placed.ensures.items_if_clones_equal (λ y e. e))) (subst (Placed (replicate c.args.count false)) (sym c.new-order.ensures.items) (placed_none c.args.count))

pub returns : goal.returns
returns c =
    let size : length c.append_reversed.new.placed.items ≡ c.args.count = c.in_ok-append_reversed.ensures.count ∙ (ap length (c.in_ok-placed.ensures.items_if_clones_equal (λ y e. e)) ∙ length-replicate c.args.count false) in
    each_once c.args.count c.append_others.new.placed.items c.append_others.new.order.items c.in_ok-append_others.ensures.placed (c.in_ok-append_others.ensures.count ∙ size)
    (λ b below small. c.in_ok-append_others.ensures.all b (subst (λ n. b < n) (sym size) below) small)
