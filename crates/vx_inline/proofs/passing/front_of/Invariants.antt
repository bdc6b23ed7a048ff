use Rattle.std.proofs.Common.{◌≡◌, ◌+◌, drop}
use Rattle.vx_inline.specs.Keeping.{front_of}
use Rattle.vx_inline.proofs.passing.front_of.Given as goal

abbrev pub invariant-loop-block : goal.invariant-loop-block
invariant-loop-block l = l.front + front_of (drop l.block-index l.blocks) ≡ front_of l.blocks
