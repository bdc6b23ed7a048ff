-- The slots so far.
use Rattle.std.proofs.Common.{◌≡◌, take}
use Rattle.vx_compiled.specs.Compiled.{in_slots}
use Rattle.vx_compile.proofs.words.slots_in.Given as goal

abbrev pub invariant-loop-kept : goal.invariant-loop-kept
invariant-loop-kept l = l.count ≡ in_slots (take l.kept-index l.values)
