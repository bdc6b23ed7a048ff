use Rattle.std.proofs.Common.{◌≡◌, ◌++◌, take}
use Rattle.std.specs.List.{flat_map}
use Rattle.vx_inline.specs.Inlined.{named_by}
use Rattle.vx_inline.proofs.names.push_blocks.Given as goal

abbrev pub invariant-loop-block : goal.invariant-loop-block
invariant-loop-block l = l.values ≡ l.initial.values ++ flat_map named_by (take l.block-index l.blocks)
