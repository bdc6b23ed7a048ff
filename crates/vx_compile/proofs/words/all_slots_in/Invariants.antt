-- The slots so far.
use Rattle.std.proofs.Common.{◌≡◌, take}
use Rattle.vx_compiled.specs.Compiled.{all_in_slots}
use Rattle.vx_compile.proofs.words.all_slots_in.Given as goal

abbrev pub invariant-loop-map : goal.invariant-loop-map
invariant-loop-map l = l.count ≡ all_in_slots (take l.map-index l.maps)
