use Rattle.std.proofs.Common.{◌≡◌, ◌++◌, drop}
use Rattle.vx_inline.specs.Inlined.{critical}
use Rattle.vx_inline.proofs.edge_blocks.critical.Given as goal

abbrev pub invariant-loop-from : goal.invariant-loop-from
invariant-loop-from l = l.edges ++ critical l.blocks l.from (drop l.from l.blocks) ≡ critical l.blocks 0 l.blocks
