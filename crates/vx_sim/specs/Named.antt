-- The registers that a word text can name, which are those that the simulator holds.
use Rattle.std.specs.Prelude.{Bool, true}
use Rattle.std.specs.List.{list_all}
use Rattle.vx_isa.specs.declared.operation.Register.{Register}
use Rattle.vx_isa.specs.declared.operation.Register.TheVariants.{General, Branch, Link}
use Rattle.vx_isa.specs.declared.operation.Operation.{Operation}
use Rattle.vx_isa.specs.Operations.{destination_of, list_of}
use Rattle.vx_isa.specs.Sound.{can_name, can_name_branch}

abbrev pub is_register : Register → Bool
is_register (General r) = can_name r
is_register (Branch r) = can_name_branch r
is_register Link = true

-- an operation writes one of them, if any
abbrev pub names_register : Operation → Bool
names_register op = list_all is_register (list_of (destination_of op))
