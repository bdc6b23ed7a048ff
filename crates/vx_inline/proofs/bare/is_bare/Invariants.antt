use Rattle.std.proofs.Common.{◌≡◌, true, take}
use Rattle.vx_inline.specs.Values.{is_bare}
use Rattle.vx_inline.proofs.bare.is_bare.Given as goal

abbrev pub invariant-loop-block : goal.invariant-loop-block
invariant-loop-block l = is_bare l.arrays (take l.block-index l.blocks) ≡ true
