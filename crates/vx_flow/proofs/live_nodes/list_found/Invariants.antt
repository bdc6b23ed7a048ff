use Rattle.std.proofs.Common.{◌≡◌, drop, length}
use Rattle.vx_flow.proofs.ClosingSteps.{Putting}
use Rattle.vx_flow.proofs.live_nodes.list_found.Given as goal

abbrev pub invariant-loop-node : goal.invariant-loop-node
invariant-loop-node l = record { so_far : Putting l.value l.initial.marks.items l.marks.items l.initial.rows l.rows (drop l.node-index l.found); len : length l.marks.items ≡ length l.initial.marks.items }
