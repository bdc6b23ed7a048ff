use Rattle.std.proofs.Common.{◌≡◌, drop}
use Rattle.vx_flow.specs.Sound.{are_distinct}
use Rattle.vx_sound.proofs.program_names.are_distinct.Given as goal

abbrev pub invariant-loop-place : goal.invariant-loop-place
invariant-loop-place l = are_distinct l.values ≡ are_distinct (drop l.place l.values)
