-- Functions whose nodes are counted by numbers of 32 bits.
use Rattle.std.specs.Prelude.{◌≡◌, ◌<◌, ◌^◌, ℕ, List, Some, slice_get}
use Rattle.vx_ast.specs.Tree.{Function}
use Rattle.vx_ast.specs.Accepted.{function_nodes}

abbrev pub AreSmall : List Function → Type 0
AreSmall functions = (f : ℕ) (function : Function) → slice_get functions f ≡ Some function → function_nodes function < 2 ^ 32
