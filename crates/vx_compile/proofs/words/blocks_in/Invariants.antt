-- The blocks so far.
use Rattle.std.proofs.Common.{◌≡◌, take}
use Rattle.vx_compiled.specs.Sized.{all_blocks}
use Rattle.vx_compile.proofs.words.blocks_in.Given as goal

abbrev pub invariant-loop-graph : goal.invariant-loop-graph
invariant-loop-graph l = l.count ≡ all_blocks (take l.graph-index l.graphs)
