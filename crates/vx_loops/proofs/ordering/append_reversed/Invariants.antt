use Rattle.std.proofs.Common.{◌≡◌, length}
use Rattle.vx_loops.specs.Order.{Placed}
use Rattle.vx_loops.proofs.ordering.append_reversed.Given as goal

abbrev pub invariant-loop-behind : goal.invariant-loop-behind
invariant-loop-behind l = record { placed : Placed l.placed.items l.order.items; count : length l.placed.items ≡ length l.initial.placed.items }
