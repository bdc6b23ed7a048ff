use Rattle.std.proofs.Common.{◌≡◌, ◌<◌, ◌^◌, ℕ, true, length}
use Rattle.vx_flow.specs.Rows.{is_marked}
use Rattle.vx_loops.specs.Order.{Placed}
use Rattle.vx_loops.proofs.ordering.append_others.Given as goal

abbrev pub invariant-loop-place : goal.invariant-loop-place
invariant-loop-place l = record {
  placed : Placed l.placed.items l.order.items;
  count : length l.placed.items ≡ length l.initial.placed.items;
  all : (b : ℕ) → b < l.place → b < 2 ^ 32 → is_marked l.placed.items b ≡ true;
}
