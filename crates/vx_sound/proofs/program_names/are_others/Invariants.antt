use Rattle.std.proofs.Common.{◌≡◌, ◌==◌, true, not, take}
use Rattle.std.specs.List.{list_all}
use Rattle.vx_sound.proofs.program_names.are_others.Given as goal

abbrev pub invariant-loop-other : goal.invariant-loop-other
invariant-loop-other l = list_all (λ u. not (u == l.value)) (take l.other-index l.values) ≡ true
