use Rattle.std.proofs.Common.{◌≡◌, true, take}
use Rattle.std.specs.List.{list_all}
use Rattle.vx_inline.specs.Inlined.{is_among}
use Rattle.vx_inline.proofs.passing.are_among.Given as goal

abbrev pub invariant-loop-value : goal.invariant-loop-value
invariant-loop-value l = list_all (λ v. is_among l.values v) (take l.value-index l.tested) ≡ true
