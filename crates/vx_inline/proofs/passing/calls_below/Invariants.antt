use Rattle.std.proofs.Common.{◌≡◌, true, take}
use Rattle.vx_inline.specs.Keeping.{calls_below}
use Rattle.vx_inline.proofs.passing.calls_below.Given as goal

abbrev pub invariant-loop-block : goal.invariant-loop-block
invariant-loop-block l = calls_below l.front (take l.block-index l.blocks) ≡ true
