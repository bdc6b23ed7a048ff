use Rattle.std.proofs.Common.{◌≡◌, ◌++◌, drop}
use Rattle.vx_regs.specs.Ways.{ways_from}
use Rattle.vx_regs.proofs.liveness.ways_of.Given as goal

abbrev pub invariant-loop-place : goal.invariant-loop-place
invariant-loop-place l = l.routes ++ ways_from l.nodes.numbers l.words l.place (drop l.place l.nodes.numbers) ≡ ways_from l.nodes.numbers l.words 0 l.nodes.numbers
