use Rattle.std.proofs.Common.{◌≡◌, [], length}
use Rattle.vx_flow.specs.Rows.{work}
use Rattle.vx_flow.specs.Closing.{BeginWithin, Closing}
use Rattle.vx_flow.proofs.ClosingSteps.{Tracked}
use Rattle.vx_flow.proofs.live_nodes.live_nodes.Given as goal

abbrev pub invariant-pending : goal.invariant-pending
invariant-pending l = record { within : BeginWithin (length l.row.items) l.routes; so_far : Closing l.routes l.value 0 [] l.row.items l.pending.items; tracked : Tracked l.row.items l.pending.items l.found.items; len : length l.row.items ≡ length l.initial.row.items }

abbrev pub decreases-pending : goal.decreases-pending
decreases-pending l = work l.row.items l.pending.items
