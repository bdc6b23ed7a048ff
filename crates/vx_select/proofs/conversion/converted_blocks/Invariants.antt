use Rattle.std.proofs.Common.{◌≡◌, ◌++◌, drop}
use Rattle.vx_select.specs.Joining.{blocks_by}
use Rattle.vx_select.proofs.conversion.converted_blocks.Given as goal

abbrev pub invariant-loop-place : goal.invariant-loop-place
invariant-loop-place l = l.blocks ++ blocks_by l.graph l.corners l.values l.place (drop l.place l.graph.blocks) ≡ blocks_by l.graph l.corners l.values 0 l.graph.blocks
