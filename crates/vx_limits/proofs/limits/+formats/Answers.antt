use Rattle.std.proofs.Common.{ap, sym, ◌∙◌, ◌+◌, ◌++◌, drop, List, ℕ, Option}
use Rattle.std.specs.Prelude.{option_map}
use Rattle.vx_ast.specs.declared.tree.Statement.{Statement}
use Rattle.vx_ast.specs.Accepted.{over, formats_of}
use Rattle.vx_ast.specs.Tree.{Code}
use Rattle.vx_ast.specs.View.{code_of, all_in}
use Rattle.vx_limits.specs.Capped.{lengths_of, over_of}
use Rattle.vx_limits.proofs.Counting.{over_left_all, over_found_all}
use Rattle.vx_limits.proofs.Limited.{declared_formats, lengths_append, over_both}
use Rattle.vx_limits.proofs.Views.{block_view}
use Rattle.vx_limits.proofs.limits.+formats.Goals as goal

pub long_format-returns-in-Declaration : goal.long_format-returns-in-Declaration
long_format-returns-in-Declaration t c =
    ap (λ (z : List (List ℕ)). over 8 4096 (lengths_of z)) (sym (declared_formats c.in-Declaration.field-0.items)) ∙ ap (λ (s : Statement). over 8 4096 (lengths_of (formats_of (code_of s)))) (sym c.in-Declaration.is)

pub long_format_in-returns-in-Some : goal.long_format_in-returns-in-Some
long_format_in-returns-in-Some t c =
    over_found_all (λ (z : List Statement). lengths_of (formats_of (all_in z))) 8 4096 (lengths_of (formats_of (code_of c.statement-item.result))) (over_of 8 c.in-Some.count) c.args.all.now c.loop-statement.statement-index c.statement-item.result _
    c.loop-statement.invariant c.loop-statement-test.true c.statement-item.is (lengths_append (formats_of (code_of c.statement-item.result)) (formats_of (all_in (drop (c.loop-statement.statement-index + 1) c.args.all.now))))
    (ap (λ (o : Option ℕ). option_map (over_of 8) o) (sym c.in-Some.is) ∙ c.long_format.ensures)

pub long_format_in-loop-statement-preserved : goal.long_format_in-loop-statement-preserved
long_format_in-loop-statement-preserved t c =
    over_left_all (λ (z : List Statement). lengths_of (formats_of (all_in z))) 8 4096 (lengths_of (formats_of (code_of c.statement-item.result))) c.args.all.now c.loop-statement.statement-index c.statement-item.result _
    c.loop-statement.invariant c.loop-statement-test.true c.statement-item.is (lengths_append (formats_of (code_of c.statement-item.result)) (formats_of (all_in (drop (c.loop-statement.statement-index + 1) c.args.all.now))))
    (ap (λ (o : Option ℕ). option_map (over_of 8) o) (sym c.in-None.is) ∙ c.long_format.ensures)

pub long_format-returns-in-IfElse : goal.long_format-returns-in-IfElse
long_format-returns-in-IfElse t c =
    ap (λ (o : Option ℕ). option_map (over_of 8) o) c.either.ensures
    ∙ over_both 8 4096 _ _ (formats_of (code_of c.deref-in-IfElse.result.now)) (formats_of (code_of c.deref-in-IfElse-2.result.now)) c.long_format-first.ensures c.long_format-in-IfElse.ensures
    ∙ ap (λ (s : Statement). over 8 4096 (lengths_of (formats_of (code_of s) ++ formats_of (code_of c.deref-in-IfElse-2.result.now)))) c.deref-in-IfElse.ensures
    ∙ ap (λ (s : Statement). over 8 4096 (lengths_of (formats_of (code_of c.in-IfElse.left.value) ++ formats_of (code_of s)))) c.deref-in-IfElse-2.ensures
    ∙ ap (λ (s : Statement). over 8 4096 (lengths_of (formats_of (code_of s)))) (sym c.in-IfElse.is)

pub long_format-returns-in-Block : goal.long_format-returns-in-Block
long_format-returns-in-Block t c =
    c.long_format_in.ensures
    ∙ ap (λ (z : List Statement). over 8 4096 (lengths_of (formats_of (all_in z)))) c.as_slice.ensures.value
    ∙ ap (λ (k : Code). over 8 4096 (lengths_of (formats_of k))) (sym (ap code_of c.in-Block.is ∙ block_view c.in-Block.all))
