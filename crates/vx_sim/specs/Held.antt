-- What the arrays of the simulator hold: registers, words of the memory.
use Rattle.std.specs.Prelude.{ℕ, ◌+◌, ◌*◌, ◌/◌, ◌%◌, ℤ, pos, ◌==◌, if◌then◌else◌, List, slice_index_or}
use Rattle.vx_isa.specs.declared.operation.Register.{Register}
use Rattle.vx_isa.specs.declared.operation.Register.TheVariants.{General, Branch, Link}
use Rattle.vx_isa.specs.Sound.{can_name, can_name_branch}
use Rattle.vx_sim.specs.declared.registers.Registers.{Registers}

-- a register that no text can name holds 0
abbrev pub held_by : Registers → Register → ℤ
held_by held (General r) = if can_name r then slice_index_or held.general (64 * r.cluster + r.number) (pos 0) else pos 0
held_by held (Branch r) = if can_name_branch r then slice_index_or held.branch (8 * r.cluster + r.number) (pos 0) else pos 0
held_by held Link = held.link

-- the word at each address that is a multiple of 4
abbrev pub word_of : List ℤ → ℕ → ℤ
word_of words a = if a % 4 == 0 then slice_index_or words (a / 4) (pos 0) else pos 0
