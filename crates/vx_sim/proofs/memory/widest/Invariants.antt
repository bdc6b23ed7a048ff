use Rattle.std.proofs.Common.{◌≡◌, max, drop}
use Rattle.vx_sim.specs.Room.{widest}
use Rattle.vx_sim.proofs.memory.widest.Given as goal

abbrev pub invariant-loop-shape : goal.invariant-loop-shape
invariant-loop-shape l = max l.most (widest (drop l.shape-index l.shapes)) ≡ widest l.shapes
