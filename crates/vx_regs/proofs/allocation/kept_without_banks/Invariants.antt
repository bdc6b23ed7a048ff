use Rattle.std.proofs.Common.{◌≡◌, map, take}
use Rattle.vx_regs.specs.Filed.{first_register}
use Rattle.vx_regs.proofs.allocation.kept_without_banks.Given as goal

abbrev pub invariant-loop-hull : goal.invariant-loop-hull
invariant-loop-hull l = l.kept.items ≡ map first_register (take l.hull-index l.hulls)
