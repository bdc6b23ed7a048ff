use Rattle.std.proofs.Common.{◌≡◌, ◌+◌, ◌<◌, ◌≤◌, ◌^◌, ℕ, Bool, true, Vec, Global, length, ap, arith, subst, sym, ◌∙◌}
use Rattle.vx_flow.specs.Rows.{is_marked}
use Rattle.vx_loops.specs.Order.{Placed}
use Rattle.vx_loops.proofs.Orders.{all_more, all_past}
use Rattle.vx_loops.proofs.ordering.append_others.Goals as goal
use Rattle.vx_loops.proofs.ordering.append_others.Goals.{then-place+in_ok-place_once, else-place}

pub place_once-requires : goal.place_once-requires
place_once-requires c = c.loop-place.invariant.placed

pub loop-place-preserved : goal.loop-place-preserved
loop-place-preserved c = elim c.if-place.branch [
  | then-place+in_ok-place_once w ↦
      let order : c.if-place.order.items ≡ w.place_once.new.order.items = ap (λ (v : Vec ℕ Global). v.items) w.order-is in
      let marks : c.if-place.placed.items ≡ w.place_once.new.placed.items = ap (λ (v : Vec Bool Global). v.items) w.placed-is in
      let there : c.loop-place.place < length c.loop-place.placed.items = omega (arith, c.loop-place-test.true, c.len-place-end.ensures, c.loop-place.invariant.count) in
      record {
        placed = subst (Placed c.if-place.placed.items) (sym order) (subst (λ m. Placed m w.place_once.new.order.items) (sym marks) w.in_ok-place_once.ensures.placed);
        count = ap length marks ∙ w.in_ok-place_once.ensures.count ∙ c.loop-place.invariant.count;
        all = subst (λ m. (b : ℕ) → b < c.loop-place.place + 1 → b < 2 ^ 32 → is_marked m b ≡ true) (sym marks) (all_more c.loop-place.place c.loop-place.placed.items w.place_once.new.placed.items w.in_ok-place_once.ensures.stays w.in_ok-place_once.ensures.marked there c.loop-place.invariant.all);
      }
  | else-place w ↦
      let order : c.if-place.order.items ≡ c.loop-place.order.items = ap (λ (v : Vec ℕ Global). v.items) w.order-is in
      let marks : c.if-place.placed.items ≡ c.loop-place.placed.items = ap (λ (v : Vec Bool Global). v.items) w.placed-is in
      let past : 2 ^ 32 ≤ c.loop-place.place = omega (arith, w.if-place.false) in
      record {
        placed = subst (Placed c.if-place.placed.items) (sym order) (subst (λ m. Placed m c.loop-place.order.items) (sym marks) c.loop-place.invariant.placed);
        count = ap length marks ∙ c.loop-place.invariant.count;
        all = subst (λ m. (b : ℕ) → b < c.loop-place.place + 1 → b < 2 ^ 32 → is_marked m b ≡ true) (sym marks) (all_past c.loop-place.place c.loop-place.placed.items past c.loop-place.invariant.all);
      }
]

pub returns-clause-placed : goal.returns-clause-placed
returns-clause-placed c = c.loop-place.invariant.placed
