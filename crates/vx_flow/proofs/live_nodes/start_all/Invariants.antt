use Rattle.std.proofs.Common.{◌≡◌, drop, length}
use Rattle.vx_flow.specs.Closing.{BeginWithin, Starting}
use Rattle.vx_flow.proofs.live_nodes.start_all.Given as goal

abbrev pub invariant-loop-index : goal.invariant-loop-index
invariant-loop-index l = record { within : BeginWithin (length l.row.items) l.routes; so_far : Starting l.routes l.value (drop l.index-index l.readers) l.row.items l.pending.items; len : length l.row.items ≡ length l.initial.row.items }
