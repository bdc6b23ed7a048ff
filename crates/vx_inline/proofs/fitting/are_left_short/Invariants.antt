use Rattle.std.proofs.Common.{◌≡◌, true, take}
use Rattle.std.specs.List.{list_all}
use Rattle.vx_inline.specs.Fitting.{is_left_short}
use Rattle.vx_inline.proofs.fitting.are_left_short.Given as goal

abbrev pub invariant-loop-block : goal.invariant-loop-block
invariant-loop-block l = list_all (is_left_short l.taker) (take l.block-index l.blocks) ≡ true
