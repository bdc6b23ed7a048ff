use Rattle.std.proofs.Common.{◌≡◌, map, take}
use Rattle.vx_ast.specs.Accepted.{function_nodes}
use Rattle.vx_ast.specs.View.{function_of}
use Rattle.vx_rewrite.proofs.filling.sizes_in.Given as goal

abbrev pub invariant-loop-function : goal.invariant-loop-function
invariant-loop-function l = l.sizes.items ≡ map function_nodes (map function_of (take l.function-index l.functions))
