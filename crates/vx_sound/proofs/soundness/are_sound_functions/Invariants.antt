use Rattle.std.proofs.Common.{◌≡◌, true, take}
use Rattle.std.specs.List.{list_all}
use Rattle.vx_flow.specs.Sound.{is_sound_function}
use Rattle.vx_sound.proofs.soundness.are_sound_functions.Given as goal

abbrev pub invariant-loop-graph : goal.invariant-loop-graph
invariant-loop-graph l = list_all (is_sound_function l.flow) (take l.graph-index l.graphs) ≡ true
