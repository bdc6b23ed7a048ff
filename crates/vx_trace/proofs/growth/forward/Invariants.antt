-- the seed and blocks behind it, up to the last
use Rattle.std.proofs.Common.{length, ◌-◌}
use Rattle.vx_trace.specs.Growing.{Linked}
use Rattle.vx_trace.proofs.Grows.{Ahead}
use Rattle.vx_trace.proofs.growth.forward.Given as goal

abbrev pub invariant-growing : goal.invariant-growing
invariant-growing l = Ahead l.mixed (Linked l.mixed l.counts) l.seed l.blocks.items l.last l.ops

abbrev pub decreases-growing : goal.decreases-growing
decreases-growing l = length l.mixed.nodes - length l.blocks.items
