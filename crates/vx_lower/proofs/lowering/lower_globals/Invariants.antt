use Rattle.std.proofs.Common.{◌≡◌, map, take}
use Rattle.vx_lower.specs.Lowered.{global_of}
use Rattle.vx_lower.proofs.lowering.lower_globals.Given as goal

abbrev pub invariant-loop-global : goal.invariant-loop-global
invariant-loop-global l = l.all ≡ map global_of (take l.global-index l.fn.globals)
