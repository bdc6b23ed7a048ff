use Rattle.std.proofs.Common.{◌∙◌, ℕ, List, map, refl, ap, arith}
use Rattle.std.specs.List.{sum}
use Rattle.vx_ast.specs.declared.tree.Function.{Function}
use Rattle.vx_ast.specs.Tree as tree
use Rattle.vx_ast.specs.View.{function_of}
use Rattle.vx_limits.specs.Capped.{capped}
use Rattle.vx_limits.proofs.Caps.{within_limit, over_limit}
use Rattle.vx_limits.proofs.Counting.{over_found_count, over_left}
use Rattle.vx_limits.proofs.limits.over_words.Goals as goal

abbrev words : List Function → List ℕ
words all = map (λ (f : tree.Function). sum f.arrays) (map function_of all)

pub loop-function-preserved : goal.loop-function-preserved
loop-function-preserved c =
    let count = c.words_of-count.ensures ∙ ap (λ (z : List ℕ). capped (sum z)) c.as_slice.ensures in
    over_left words 6 8192 (sum c.function-item.result.arrays) c.args.functions.now c.loop-function.function-index c.function-item.result _ c.loop-function.invariant c.loop-function-test.true c.function-item.is refl (within_limit _ _ 8192 count c.if-count-gt8192.false (omega arith))

pub returns-then-count-gt8192 : goal.returns-then-count-gt8192
returns-then-count-gt8192 c =
    let count = c.words_of-count.ensures ∙ ap (λ (z : List ℕ). capped (sum z)) c.as_slice.ensures in
    over_found_count words 6 8192 c.words_of-count.result (sum c.function-item.result.arrays) c.args.functions.now c.loop-function.function-index c.function-item.result _ c.loop-function.invariant c.loop-function-test.true c.function-item.is refl c.if-count-gt8192.true (over_limit _ _ count c.if-count.false)
