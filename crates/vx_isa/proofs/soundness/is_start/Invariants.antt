use Rattle.std.proofs.Common.{◌≡◌, drop}
use Rattle.vx_isa.specs.Sound.{is_start}
use Rattle.vx_isa.proofs.soundness.is_start.Given as goal

abbrev pub invariant-loop-address : goal.invariant-loop-address
invariant-loop-address l = is_start l.memory 0 l.start ≡ is_start l.memory l.least (drop l.address-index l.start)
