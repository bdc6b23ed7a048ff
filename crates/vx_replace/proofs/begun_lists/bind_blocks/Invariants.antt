use Rattle.std.proofs.Common.{◌≡◌, take}
use Rattle.vx_mixed.specs.FromGraph.{bound_by}
use Rattle.vx_replace.proofs.begun_lists.bind_blocks.Given as goal

abbrev pub invariant-loop-block : goal.invariant-loop-block
invariant-loop-block l = l.homes.items ≡ bound_by (take l.block-index l.blocks) l.initial.homes.items
