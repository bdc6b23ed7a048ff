use Rattle.std.proofs.Common.{◌≡◌, true, take}
use Rattle.std.specs.List.{list_all}
use Rattle.vx_flow.specs.Sound.{is_no_global}
use Rattle.vx_sound.proofs.program_names.are_no_globals.Given as goal

abbrev pub invariant-loop-array : goal.invariant-loop-array
invariant-loop-array l = list_all is_no_global (take l.array-index l.arrays) ≡ true
