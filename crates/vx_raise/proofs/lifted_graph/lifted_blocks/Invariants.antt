use Rattle.std.proofs.Common.{◌≡◌, take}
use Rattle.vx_raise.specs.Lifting.{lifted_blocks}
use Rattle.vx_raise.proofs.lifted_graph.lifted_blocks.Given as goal

abbrev pub invariant-loop-index : goal.invariant-loop-index
invariant-loop-index l = l.new ≡ lifted_blocks l.one l.op 0 (take l.index l.blocks)
