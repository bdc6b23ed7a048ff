use Rattle.std.proofs.Common.{◌≡◌, ◌≤◌, drop, length}
use Rattle.vx_flow.specs.Rows.{work}
use Rattle.vx_flow.specs.Closing.{BeginWithin, Closing, Spreads}
use Rattle.vx_flow.proofs.live_nodes.follow_all.Given as goal

abbrev pub invariant-loop-index : goal.invariant-loop-index
invariant-loop-index l = record { within : BeginWithin (length l.row.items) l.routes; so_far : Closing l.routes l.value l.node (drop l.index-index l.entering) l.row.items l.pending.items; spreads : Spreads l.initial.row.items l.row.items l.initial.pending.items l.pending.items; len : length l.row.items ≡ length l.initial.row.items; less : work l.row.items l.pending.items ≤ work l.initial.row.items l.initial.pending.items }
