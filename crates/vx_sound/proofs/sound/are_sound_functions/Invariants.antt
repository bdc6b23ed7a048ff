use Rattle.std.proofs.Common.{◌≡◌, drop}
use Rattle.std.specs.List.{list_all}
use Rattle.vx_flow.specs.Sound.{is_sound_function}
use Rattle.vx_sound.proofs.sound.are_sound_functions.Given as goal

abbrev pub invariant-loop-graph : goal.invariant-loop-graph
invariant-loop-graph l = list_all (is_sound_function l.flow) l.graphs ≡ list_all (is_sound_function l.flow) (drop l.graph-index l.graphs)
