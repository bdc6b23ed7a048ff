use Rattle.std.proofs.Common.{◌≡◌, true, take}
use Rattle.std.specs.List.{list_all}
use Rattle.vx_flow.specs.Sound.{is_general}
use Rattle.vx_sound.proofs.named.are_general.Given as goal

abbrev pub invariant-loop-value : goal.invariant-loop-value
invariant-loop-value l = list_all (is_general l.banks) (take l.value-index l.values) ≡ true
