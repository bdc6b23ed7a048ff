use Rattle.std.proofs.Common.{◌≡◌, ℕ, ◌+◌, ◌*◌, pos, Bool, true, false, if◌then◌else◌, replicate, slice_index_or, refl}
use Rattle.std.proofs.Math.Path.{fun_ext}
use Rattle.vx_isa.specs.declared.operation.Register.{Register}
use Rattle.vx_isa.specs.declared.operation.Register.TheVariants.{General, Branch, Link}
use Rattle.vx_isa.specs.Sound.{can_name, can_name_branch}
use Rattle.vx_sim.specs.Held.{held_by}
use Rattle.vx_sim.proofs.Starting.{zero_at}
use Rattle.vx_sim.proofs.registers.Registers.zeros.Goals as goal

zero_if : (b : Bool) (n i : ℕ) → (if b then slice_index_or (replicate n (pos 0)) i (pos 0) else pos 0) ≡ pos 0
zero_if true n i = zero_at n i
zero_if false n i = refl

all_zero : (r : Register) → held_by (record { general = replicate 256 (pos 0); branch = replicate 32 (pos 0); link = pos 0 }) r ≡ pos 0
all_zero (General r) = zero_if (can_name r) 256 (64 * r.cluster + r.number)
all_zero (Branch r) = zero_if (can_name_branch r) 32 (8 * r.cluster + r.number)
all_zero Link = refl

pub returns : goal.returns
returns c = fun_ext all_zero
