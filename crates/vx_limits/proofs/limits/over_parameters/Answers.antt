use Rattle.std.proofs.Common.{◌∙◌, ◌<◌, ◌≤◌, ℕ, List, Some, length, map, refl, ap, sym, arith}
use Rattle.vx_ast.specs.declared.tree.Function.{Function}
use Rattle.vx_ast.specs.Tree as tree
use Rattle.vx_ast.specs.View.{function_of}
use Rattle.vx_limits.specs.Capped.{over_of}
use Rattle.vx_limits.proofs.Counting.{over_found_count, over_left}
use Rattle.vx_limits.proofs.limits.over_parameters.Goals as goal

abbrev parameters : List Function → List ℕ
parameters all = map (λ (f : tree.Function). length f.takes) (map function_of all)

pub loop-function-preserved : goal.loop-function-preserved
loop-function-preserved c =
    let e = c.len-count.ensures.len in
    let few : length c.function-item.result.takes ≤ 8 = omega (arith, e, c.if-count-gt8.false) in
    over_left parameters 4 8 (length c.function-item.result.takes) c.args.functions.now c.loop-function.function-index c.function-item.result _ c.loop-function.invariant c.loop-function-test.true c.function-item.is refl few

pub returns-then-count-gt8 : goal.returns-then-count-gt8
returns-then-count-gt8 c =
    over_found_count parameters 4 8 c.len-count.result (length c.function-item.result.takes) c.args.functions.now c.loop-function.function-index c.function-item.result _ c.loop-function.invariant c.loop-function-test.true c.function-item.is refl c.if-count-gt8.true c.len-count.ensures.len
