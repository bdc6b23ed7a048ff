use Rattle.std.proofs.Common.{◌≡◌, true, take}
use Rattle.std.specs.List.{list_all}
use Rattle.vx_sound.specs.Origins.{is_parameter_shown}
use Rattle.vx_sound.proofs.places.are_parameters_shown.Given as goal

abbrev pub invariant-loop-value : goal.invariant-loop-value
invariant-loop-value l = list_all (is_parameter_shown l.origins) (take l.value-index l.values) ≡ true
