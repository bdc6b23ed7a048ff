use Rattle.std.proofs.Common.{◌≡◌, drop, map}
use Rattle.std.specs.List.{sum}
use Rattle.vx_ast.specs.Accepted.{over}
use Rattle.vx_ast.specs.Tree as tree
use Rattle.vx_ast.specs.View.{function_of}
use Rattle.vx_limits.proofs.limits.over_words.Given as goal

abbrev pub invariant-loop-function : goal.invariant-loop-function
invariant-loop-function l = over 6 8192 (map (λ (f : tree.Function). sum f.arrays) (map function_of (drop l.function-index l.fn.functions))) ≡ over 6 8192 (map (λ (f : tree.Function). sum f.arrays) (map function_of l.fn.functions))
