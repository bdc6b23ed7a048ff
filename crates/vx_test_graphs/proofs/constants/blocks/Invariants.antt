use Rattle.std.proofs.Common.{◌≡◌, take, map}
use Rattle.vx_test_graphs.specs.Graphs.{block_of}
use Rattle.vx_test_graphs.proofs.constants.blocks.Given as goal

abbrev pub invariant-loop-part : goal.invariant-loop-part
invariant-loop-part l = l.list ≡ map block_of (take l.part-index l.parts)
