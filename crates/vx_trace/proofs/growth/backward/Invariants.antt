-- blocks before the others, from the first on
use Rattle.std.proofs.Common.{length, ◌-◌}
use Rattle.vx_trace.specs.Growing.{Linked}
use Rattle.vx_trace.proofs.Grows.{Aback}
use Rattle.vx_trace.proofs.growth.backward.Given as goal

abbrev pub invariant-growing : goal.invariant-growing
invariant-growing l = Aback l.mixed (Linked l.mixed l.counts) l.fn.grown.blocks.items l.blocks.items l.first l.ops

abbrev pub decreases-growing : goal.decreases-growing
decreases-growing l = length l.mixed.nodes - length l.blocks.items
