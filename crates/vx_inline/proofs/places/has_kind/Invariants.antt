use Rattle.std.proofs.Common.{◌≡◌, false, take}
use Rattle.vx_inline.specs.Placing.{has_kind}
use Rattle.vx_inline.proofs.places.has_kind.Given as goal

abbrev pub invariant-loop-block : goal.invariant-loop-block
invariant-loop-block l = has_kind (take l.block-index l.blocks) l.kind ≡ false
