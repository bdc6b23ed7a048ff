use Rattle.std.proofs.Common.{◌≡◌, drop}
use Rattle.vx_flow.specs.Sound.{begins_with}
use Rattle.vx_sound.proofs.program_names.begins_with.Given as goal

abbrev pub invariant-loop-global : goal.invariant-loop-global
invariant-loop-global l = begins_with l.globals l.arrays ≡ begins_with (drop l.global-index l.globals) l.left
