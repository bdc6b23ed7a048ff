use Rattle.std.proofs.Common.{◌≡◌, drop, map}
use Rattle.std.specs.List.{flat_map}
use Rattle.vx_ast.specs.Accepted.{over, formats_of}
use Rattle.vx_ast.specs.Tree as tree
use Rattle.vx_ast.specs.View.{function_of}
use Rattle.vx_limits.specs.Capped.{lengths_of}
use Rattle.vx_limits.proofs.limits.over_formats.Given as goal

abbrev pub invariant-loop-function : goal.invariant-loop-function
invariant-loop-function l = over 8 4096 (flat_map (λ (f : tree.Function). lengths_of (formats_of f.body)) (map function_of (drop l.function-index l.fn.functions))) ≡ over 8 4096 (flat_map (λ (f : tree.Function). lengths_of (formats_of f.body)) (map function_of l.fn.functions))
