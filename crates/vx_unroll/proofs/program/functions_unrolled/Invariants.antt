use Rattle.std.proofs.Common.{◌≡◌, map, take}
use Rattle.vx_ast.specs.View.{function_of}
use Rattle.vx_unroll.specs.Unrolling.{unrolled_function}
use Rattle.vx_unroll.proofs.program.functions_unrolled.Given as goal

abbrev pub invariant-loop-function : goal.invariant-loop-function
invariant-loop-function l = map function_of l.made.items ≡ map (unrolled_function l.fn.factor l.fn.globals) (map function_of (take l.function-index l.fn.functions))
