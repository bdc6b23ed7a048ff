use Rattle.std.proofs.Common.{ℕ, List, map, refl, arith}
use Rattle.std.specs.List.{list_all}
use Rattle.vx_ast.specs.declared.tree.Function.{Function}
use Rattle.vx_ast.specs.Accepted.{function_nodes}
use Rattle.vx_ast.specs.View.{function_of}
use Rattle.vx_limits.specs.Words.{function_words}
use Rattle.vx_limits.proofs.Caps.{within_limit, over_limit}
use Rattle.vx_limits.proofs.Counting.{over_found_count, over_left, words_left}
use Rattle.vx_limits.proofs.limits.over_nodes.Goals as goal

abbrev nodes : List Function → List ℕ
nodes all = map function_nodes (map function_of all)

pub loop-function-preserved : goal.loop-function-preserved
loop-function-preserved c =
    let all = c.args.functions.now in
    let i = c.loop-function.function-index in
    let f = c.function-item.result in
    let h = c.loop-function.invariant in
    record {
      limit = over_left nodes 5 4000 (function_nodes (function_of f)) all i f _ h.limit c.loop-function-test.true c.function-item.is refl (within_limit _ _ 4000 c.counted_nodes-count.ensures.nodes c.if-count-gt4000.false (omega arith));
      words = λ r. h.words (words_left (λ (z : List Function). list_all function_words (map function_of z)) (function_words (function_of f)) all i f c.loop-function-test.true c.function-item.is refl c.counted_nodes-count.ensures.words r);
    }

pub returns-then-count-gt4000-clause-limit : goal.returns-then-count-gt4000-clause-limit
returns-then-count-gt4000-clause-limit c =
    let f = c.function-item.result in
    over_found_count nodes 5 4000 c.counted_nodes-count.result (function_nodes (function_of f)) c.args.functions.now c.loop-function.function-index f _ c.loop-function.invariant.limit c.loop-function-test.true c.function-item.is refl c.if-count-gt4000.true (over_limit _ _ c.counted_nodes-count.ensures.nodes c.if-count.false)
