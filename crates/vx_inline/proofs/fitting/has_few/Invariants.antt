use Rattle.std.proofs.Common.{◌≡◌, drop}
use Rattle.vx_inline.specs.Fitting.{has_few}
use Rattle.vx_inline.proofs.fitting.has_few.Given as goal

abbrev pub invariant-loop-block : goal.invariant-loop-block
invariant-loop-block l = has_few l.most l.blocks ≡ has_few l.left (drop l.block-index l.blocks)
