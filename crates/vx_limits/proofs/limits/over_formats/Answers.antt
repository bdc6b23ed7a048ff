use Rattle.std.proofs.Common.{ap, sym, ◌∙◌, map, List, ℕ, Option, refl}
use Rattle.std.specs.Prelude.{option_map}
use Rattle.std.specs.List.{flat_map}
use Rattle.vx_ast.specs.declared.tree.Statement.{Statement}
use Rattle.vx_ast.specs.declared.tree.Function.{Function}
use Rattle.vx_ast.specs.Tree as tree
use Rattle.vx_ast.specs.Accepted.{over, formats_of}
use Rattle.vx_ast.specs.View.{function_of, all_in}
use Rattle.vx_limits.specs.Capped.{lengths_of, over_of}
use Rattle.vx_limits.proofs.Counting.{over_left_all, over_found_all}
use Rattle.vx_limits.proofs.limits.over_formats.Goals as goal

pub returns-in-Some : goal.returns-in-Some
returns-in-Some c =
    over_found_all (λ (z : List Function). flat_map (λ (f : tree.Function). lengths_of (formats_of f.body)) (map function_of z)) 8 4096 (lengths_of (formats_of (all_in c.function-item.result.body.items))) (over_of 8 c.in-Some.count) c.args.functions.now c.loop-function.function-index c.function-item.result _
    c.loop-function.invariant c.loop-function-test.true c.function-item.is refl
    (ap (λ (o : Option ℕ). option_map (over_of 8) o) (sym c.in-Some.is) ∙ c.long_format_in.ensures ∙ ap (λ (z : List Statement). over 8 4096 (lengths_of (formats_of (all_in z)))) c.as_slice.ensures.value)

pub loop-function-preserved : goal.loop-function-preserved
loop-function-preserved c =
    over_left_all (λ (z : List Function). flat_map (λ (f : tree.Function). lengths_of (formats_of f.body)) (map function_of z)) 8 4096 (lengths_of (formats_of (all_in c.function-item.result.body.items))) c.args.functions.now c.loop-function.function-index c.function-item.result _
    c.loop-function.invariant c.loop-function-test.true c.function-item.is refl
    (ap (λ (o : Option ℕ). option_map (over_of 8) o) (sym c.in-None.is) ∙ c.long_format_in.ensures ∙ ap (λ (z : List Statement). over 8 4096 (lengths_of (formats_of (all_in z)))) c.as_slice.ensures.value)
