use Rattle.std.proofs.Common.{◌≡◌, map, take}
use Rattle.vx_flow.specs.Meaning.{words_at_start}
use Rattle.vx_tally.proofs.machine.global_arrays.Given as goal

abbrev pub invariant-loop-global : goal.invariant-loop-global
invariant-loop-global l = l.arrays.items ≡ map words_at_start (take l.global-index l.globals)
