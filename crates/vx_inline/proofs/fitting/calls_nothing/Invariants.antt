use Rattle.std.proofs.Common.{◌≡◌, true, not, take}
use Rattle.std.specs.List.{list_all}
use Rattle.vx_inline.specs.Fitting.{is_calling}
use Rattle.vx_inline.proofs.fitting.calls_nothing.Given as goal

abbrev pub invariant-loop-block : goal.invariant-loop-block
invariant-loop-block l = list_all (λ block. not (is_calling block)) (take l.block-index l.blocks) ≡ true
