use Rattle.std.proofs.Common.{◌≡◌, map, take}
use Rattle.vx_mixed.specs.declared.region.Node.TheVariants.{Unused}
use Rattle.vx_replace.proofs.begun_lists.unused_nodes.Given as goal

abbrev pub invariant-loop-block : goal.invariant-loop-block
invariant-loop-block l = l.nodes ≡ map Unused (take l.block-index l.blocks)
