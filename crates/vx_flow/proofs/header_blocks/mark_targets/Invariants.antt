use Rattle.std.proofs.Common.{drop, length}
use Rattle.vx_flow.proofs.HeaderSteps.{Targets}
use Rattle.vx_flow.proofs.header_blocks.mark_targets.Given as goal

abbrev pub invariant-loop-edge : goal.invariant-loop-edge
invariant-loop-edge l = Targets l.targets.items l.edges (drop l.edge-index l.edges) (length l.initial.targets.items)
