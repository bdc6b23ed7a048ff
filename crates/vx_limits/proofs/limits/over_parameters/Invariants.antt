use Rattle.std.proofs.Common.{◌≡◌, length, drop, map}
use Rattle.vx_ast.specs.Accepted.{over}
use Rattle.vx_ast.specs.Tree as tree
use Rattle.vx_ast.specs.View.{function_of}
use Rattle.vx_limits.proofs.limits.over_parameters.Given as goal

abbrev pub invariant-loop-function : goal.invariant-loop-function
invariant-loop-function l = over 4 8 (map (λ (f : tree.Function). length f.takes) (map function_of (drop l.function-index l.fn.functions))) ≡ over 4 8 (map (λ (f : tree.Function). length f.takes) (map function_of l.fn.functions))
