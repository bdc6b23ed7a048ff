-- A definition of a file, where this is known of the definitions above it.
use Rattle.std.specs.Prelude.{ℕ, List, [], ◌∷◌, ◌++◌, take}
use Rattle.vx_ast.specs.declared.names.Fault.{Fault}
use Rattle.vx_ast.specs.Tree as tree
use Rattle.vx_ast.specs.Syntax.{Definition, GlobalScalar, GlobalArray, AFunction}
use Rattle.vx_ast.specs.Scopes.{Environment}
use Rattle.vx_ast.specs.Faults.{fault_if, is_repeated, sizes_faults, function_faults}
use Rattle.vx_ast.specs.Resolved.{function_in}

-- at the start of a function whose first array has this number
abbrev pub at_start : Environment → ℕ → Environment
at_start env arrays = record env { depth = 1; scalars = 0; arrays = arrays; sizes = [] }

abbrev pub own_faults : Environment → ℕ → Definition → List Fault
own_faults env arrays (GlobalScalar x z) = fault_if (is_repeated (take env.above env.names) x.bytes) 6 x.place
own_faults env arrays (GlobalArray x size) = fault_if (is_repeated (take env.above env.names) x.bytes) 6 x.place ++ sizes_faults size
own_faults env arrays (AFunction f) = fault_if (is_repeated (take env.above env.names) f.name.bytes) 6 f.name.place ++ function_faults (at_start env arrays) f

abbrev pub own_functions : Environment → ℕ → Definition → List tree.Function
own_functions env arrays (GlobalScalar x z) = []
own_functions env arrays (GlobalArray x size) = []
own_functions env arrays (AFunction f) = function_in (at_start env arrays) f ∷ []
