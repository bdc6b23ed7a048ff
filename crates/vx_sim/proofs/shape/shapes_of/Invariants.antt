use Rattle.std.proofs.Common.{◌≡◌, map, take}
use Rattle.vx_sim.specs.Shapes.{shape_of}
use Rattle.vx_sim.proofs.shape.shapes_of.Given as goal

abbrev pub invariant-loop-word : goal.invariant-loop-word
invariant-loop-word l = l.shapes.items ≡ map (shape_of l.machine) (take l.word-index l.words)
