use Rattle.std.proofs.Common.{◌≡◌, ◌++◌, take}
use Rattle.std.specs.List.{flat_map}
use Rattle.vx_inline.specs.Reaching.{calls_of_block}
use Rattle.vx_inline.proofs.called.push_callees.Given as goal

abbrev pub invariant-loop-block : goal.invariant-loop-block
invariant-loop-block l = l.to ≡ l.initial.to ++ flat_map calls_of_block (take l.block-index l.blocks)
