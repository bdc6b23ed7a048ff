use Rattle.std.proofs.Common.{◌≡◌, refl, ap, sym, ◌∙◌, drop, Result, Ok, Err, IfOk}
use Rattle.vx_ast.specs.declared.syntax.Expression.{Expression as Written}
use Rattle.vx_ast.specs.declared.tree.Expression.{Expression as Made}
use Rattle.vx_ast.specs.Resolved.{tree_in}
use Rattle.vx_ast.specs.Scopes.{Environment}
use Rattle.vx_ast.specs.Syntax as syntax
use Rattle.vx_ast.specs.Syntax.{Phrase}
use Rattle.vx_ast.specs.Tree as tree
use Rattle.vx_ast.specs.Tree.{Tree, One}
use Rattle.vx_ast.specs.SyntaxView.{phrase_of}
use Rattle.vx_ast.specs.View.{tree_of}
use Rattle.std.proofs.lemmas.List.{drop_all}
use Rattle.vx_types.proofs.Rows.{call_made, arguments_made_step, arguments_made_end}
use Rattle.vx_types.proofs.Views.{call_written}
use Rattle.vx_types.proofs.Weights.{boxed_falls, behind_falls, row_falls, expression_falls, to_none, to_one, only, left, right, second, third}
use Rattle.vx_types.proofs.expressions.+resolved.Goals as goal

-- two operands, whatever is made of them
two_made : (f : Tree One → Tree One → Tree One) (env : Environment) (s : Written) (k : Phrase One) (left first right second : Tree One) → phrase_of s ≡ k → left ≡ first → right ≡ second → f first second ≡ tree_in env k → f left right ≡ tree_in env (phrase_of s)
two_made f env s k left first right second e l r h = ap (λ (z : Tree One). f z right) l ∙ ap (λ (z : Tree One). f first z) r ∙ h ∙ ap (λ (z : Phrase One). tree_in env z) (sym e)

choice_made : {E : Type 0} (r : Result Made E) (env : Environment) (s : Written) (a b c : Phrase One) (test left : Tree One) → phrase_of s ≡ syntax.Choice a b c → test ≡ tree_in env a → left ≡ tree_in env b
    → IfOk r (λ m. tree_of m ≡ tree.Choice test left (tree_in env c)) → IfOk r (λ m. tree_of m ≡ tree_in env (phrase_of s))
choice_made (Err x) env s a b c test left e t l h = tt
choice_made (Ok x) env s a b c test left e t l h =
    h ∙ ap (λ (z : Tree One). tree.Choice z left (tree_in env c)) t ∙ ap (λ (z : Tree One). tree.Choice (tree_in env a) z (tree_in env c)) l ∙ ap (λ (z : Phrase One). tree_in env z) (sym e)

pub resolve-returns-in_ok-row-in-Call : goal.resolve-returns-in_ok-row-in-Call
resolve-returns-in_ok-row-in-Call t c =
    call_made c.args.names.now c.in-Call.name c.in-Call.row.items c.as_slice-in-Call-2.result.now c.as_slice-in-Call.result.now c.named-meant.result c.wanted_by.result.now c.in_ok-row-in-Call.row.items c.call_named.result
    c.as_slice-in-Call-2.ensures.value c.as_slice-in-Call.ensures c.named-meant.ensures c.wanted_by.ensures c.in_ok-row-in-Call.ensures c.call_named.ensures
    ∙ ap (λ (z : Phrase One). tree_in c.args.names.now z) (sym (ap phrase_of c.in-Call.is ∙ call_written c.in-Call.name c.in-Call.row))

pub resolve_arguments-loop-place-preserved : goal.resolve_arguments-loop-place-preserved
resolve_arguments-loop-place-preserved t c =
    arguments_made_step c.args.names.now c.args.takes.now c.loop-place.made.items c.append.new.made.items c.in_ok-one.one c.args.row.now c.loop-place.place c.index-row-place.result c.taken_at-taken.result _ c.loop-place-test.true c.index-row-place.is c.taken_at-taken.ensures
    c.loop-place.invariant c.in_ok-append.ensures c.in_ok-one.ensures

pub resolve_arguments-returns : goal.resolve_arguments-returns
resolve_arguments-returns t c =
    arguments_made_end c.args.names.now (drop c.loop-place.place c.args.takes.now) c.loop-place.made.items (drop c.loop-place.place c.args.row.now) _ (drop_all c.loop-place.place c.args.row.now c.loop-place-test.false) c.loop-place.invariant

pub resolve-returns-in_ok-both-in-Binary : goal.resolve-returns-in_ok-both-in-Binary
resolve-returns-in_ok-both-in-Binary t c =
    let k = syntax.Binary c.in-Binary.operator (phrase_of c.deref-in-Binary.result.now) (phrase_of c.deref-in-Binary-2.result.now) in
    let e : phrase_of c.args.expression.now ≡ k =
    ap phrase_of c.in-Binary.is ∙ ap (λ (z : Written). syntax.Binary c.in-Binary.operator (phrase_of z) (phrase_of c.in-Binary.right.value)) (sym c.deref-in-Binary.ensures)
    ∙ ap (λ (z : Written). syntax.Binary c.in-Binary.operator (phrase_of c.deref-in-Binary.result.now) (phrase_of z)) (sym c.deref-in-Binary-2.ensures) in
    let both = c.in_ok-both-in-Binary in
    two_made (tree.Binary c.in-Binary.operator) c.args.names.now c.args.expression.now k (tree_of both.both.left.value) (tree_in c.args.names.now (phrase_of c.deref-in-Binary.result.now)) (tree_of both.both.right.value) (tree_in c.args.names.now (phrase_of c.deref-in-Binary-2.result.now)) e
    (both.ensures.left ∙ c.in_ok-left-in-Binary.ensures) both.ensures.right refl

pub resolve-returns-in_ok-both-in-Both : goal.resolve-returns-in_ok-both-in-Both
resolve-returns-in_ok-both-in-Both t c =
    let k = syntax.Both (phrase_of c.deref-in-Both.result.now) (phrase_of c.deref-in-Both-2.result.now) in
    let e : phrase_of c.args.expression.now ≡ k =
    ap phrase_of c.in-Both.is ∙ ap (λ (z : Written). syntax.Both (phrase_of z) (phrase_of c.in-Both.right.value)) (sym c.deref-in-Both.ensures)
    ∙ ap (λ (z : Written). syntax.Both (phrase_of c.deref-in-Both.result.now) (phrase_of z)) (sym c.deref-in-Both-2.ensures) in
    let both = c.in_ok-both-in-Both in
    two_made tree.Both c.args.names.now c.args.expression.now k (tree_of both.both.left.value) (tree_in c.args.names.now (phrase_of c.deref-in-Both.result.now)) (tree_of both.both.right.value) (tree_in c.args.names.now (phrase_of c.deref-in-Both-2.result.now)) e
    (both.ensures.left ∙ c.in_ok-left-in-Both.ensures) both.ensures.right refl

pub resolve-returns-in_ok-both-in-Either : goal.resolve-returns-in_ok-both-in-Either
resolve-returns-in_ok-both-in-Either t c =
    let k = syntax.Either (phrase_of c.deref-in-Either.result.now) (phrase_of c.deref-in-Either-2.result.now) in
    let e : phrase_of c.args.expression.now ≡ k =
    ap phrase_of c.in-Either.is ∙ ap (λ (z : Written). syntax.Either (phrase_of z) (phrase_of c.in-Either.right.value)) (sym c.deref-in-Either.ensures)
    ∙ ap (λ (z : Written). syntax.Either (phrase_of c.deref-in-Either.result.now) (phrase_of z)) (sym c.deref-in-Either-2.ensures) in
    let both = c.in_ok-both-in-Either in
    two_made tree.Either c.args.names.now c.args.expression.now k (tree_of both.both.left.value) (tree_in c.args.names.now (phrase_of c.deref-in-Either.result.now)) (tree_of both.both.right.value) (tree_in c.args.names.now (phrase_of c.deref-in-Either-2.result.now)) e
    (both.ensures.left ∙ c.in_ok-left-in-Either.ensures) both.ensures.right refl

pub resolve-returns-in_ok-left-in-Choice : goal.resolve-returns-in_ok-left-in-Choice
resolve-returns-in_ok-left-in-Choice t c =
    let e : phrase_of c.args.expression.now ≡ syntax.Choice (phrase_of c.deref-in-Choice.result.now) (phrase_of c.deref-in-Choice-2.result.now) (phrase_of c.deref-in-Choice-3.result.now) =
    ap phrase_of c.in-Choice.is ∙ ap (λ (z : Written). syntax.Choice (phrase_of z) (phrase_of c.in-Choice.left.value) (phrase_of c.in-Choice.right.value)) (sym c.deref-in-Choice.ensures)
    ∙ ap (λ (z : Written). syntax.Choice (phrase_of c.deref-in-Choice.result.now) (phrase_of z) (phrase_of c.in-Choice.right.value)) (sym c.deref-in-Choice-2.ensures)
    ∙ ap (λ (z : Written). syntax.Choice (phrase_of c.deref-in-Choice.result.now) (phrase_of c.deref-in-Choice-2.result.now) (phrase_of z)) (sym c.deref-in-Choice-3.ensures) in
    choice_made c.choice_behind.result c.args.names.now c.args.expression.now (phrase_of c.deref-in-Choice.result.now) (phrase_of c.deref-in-Choice-2.result.now) (phrase_of c.deref-in-Choice-3.result.now) (tree_of c.in_ok-test-in-Choice.test.value) (tree_of c.in_ok-left-in-Choice.left.value) e
    c.in_ok-test-in-Choice.ensures c.in_ok-left-in-Choice.ensures c.choice_behind.ensures

pub resolve-resolve_boxed-requires : goal.resolve-resolve_boxed-requires
resolve-resolve_boxed-requires t c = (boxed_falls (phrase_of c.args.expression.now) (syntax.Element c.in-Element.name (phrase_of c.in-Element.index.value)) c.in-Element.index.value c.deref.result.now t c.decreases (ap phrase_of c.in-Element.is) c.deref.ensures (only _), tt)

pub resolve-resolve_boxed-requires-in-Unary : goal.resolve-resolve_boxed-requires-in-Unary
resolve-resolve_boxed-requires-in-Unary t c = (boxed_falls (phrase_of c.args.expression.now) (syntax.Unary c.in-Unary.operator (phrase_of c.in-Unary.operand.value)) c.in-Unary.operand.value c.deref-in-Unary.result.now t c.decreases (ap phrase_of c.in-Unary.is) c.deref-in-Unary.ensures (only _), tt)

pub resolve-resolve_boxed-requires-in-Binary : goal.resolve-resolve_boxed-requires-in-Binary
resolve-resolve_boxed-requires-in-Binary t c = (boxed_falls (phrase_of c.args.expression.now) (syntax.Binary c.in-Binary.operator (phrase_of c.in-Binary.left.value) (phrase_of c.in-Binary.right.value)) c.in-Binary.left.value c.deref-in-Binary.result.now t c.decreases (ap phrase_of c.in-Binary.is) c.deref-in-Binary.ensures (left _ _), tt)

pub resolve-resolve_behind-requires : goal.resolve-resolve_behind-requires
resolve-resolve_behind-requires t c = (behind_falls (phrase_of c.args.expression.now) (syntax.Binary c.in-Binary.operator (phrase_of c.in-Binary.left.value) (phrase_of c.in-Binary.right.value)) c.in-Binary.right.value c.deref-in-Binary-2.result.now t c.decreases (ap phrase_of c.in-Binary.is) c.deref-in-Binary-2.ensures (right _ _), tt)

pub resolve-resolve_boxed-requires-in-Both : goal.resolve-resolve_boxed-requires-in-Both
resolve-resolve_boxed-requires-in-Both t c = (boxed_falls (phrase_of c.args.expression.now) (syntax.Both (phrase_of c.in-Both.left.value) (phrase_of c.in-Both.right.value)) c.in-Both.left.value c.deref-in-Both.result.now t c.decreases (ap phrase_of c.in-Both.is) c.deref-in-Both.ensures (left _ _), tt)

pub resolve-resolve_behind-requires-in-Both : goal.resolve-resolve_behind-requires-in-Both
resolve-resolve_behind-requires-in-Both t c = (behind_falls (phrase_of c.args.expression.now) (syntax.Both (phrase_of c.in-Both.left.value) (phrase_of c.in-Both.right.value)) c.in-Both.right.value c.deref-in-Both-2.result.now t c.decreases (ap phrase_of c.in-Both.is) c.deref-in-Both-2.ensures (right _ _), tt)

pub resolve-resolve_boxed-requires-in-Either : goal.resolve-resolve_boxed-requires-in-Either
resolve-resolve_boxed-requires-in-Either t c = (boxed_falls (phrase_of c.args.expression.now) (syntax.Either (phrase_of c.in-Either.left.value) (phrase_of c.in-Either.right.value)) c.in-Either.left.value c.deref-in-Either.result.now t c.decreases (ap phrase_of c.in-Either.is) c.deref-in-Either.ensures (left _ _), tt)

pub resolve-resolve_behind-requires-in-Either : goal.resolve-resolve_behind-requires-in-Either
resolve-resolve_behind-requires-in-Either t c = (behind_falls (phrase_of c.args.expression.now) (syntax.Either (phrase_of c.in-Either.left.value) (phrase_of c.in-Either.right.value)) c.in-Either.right.value c.deref-in-Either-2.result.now t c.decreases (ap phrase_of c.in-Either.is) c.deref-in-Either-2.ensures (right _ _), tt)

pub resolve-resolve_boxed-requires-in-Choice : goal.resolve-resolve_boxed-requires-in-Choice
resolve-resolve_boxed-requires-in-Choice t c = (boxed_falls (phrase_of c.args.expression.now) (syntax.Choice (phrase_of c.in-Choice.test.value) (phrase_of c.in-Choice.left.value) (phrase_of c.in-Choice.right.value)) c.in-Choice.test.value c.deref-in-Choice.result.now t c.decreases (ap phrase_of c.in-Choice.is) c.deref-in-Choice.ensures (left _ _), tt)

pub resolve-resolve_boxed-requires-in-Choice-2 : goal.resolve-resolve_boxed-requires-in-Choice-2
resolve-resolve_boxed-requires-in-Choice-2 t c = (boxed_falls (phrase_of c.args.expression.now) (syntax.Choice (phrase_of c.in-Choice.test.value) (phrase_of c.in-Choice.left.value) (phrase_of c.in-Choice.right.value)) c.in-Choice.left.value c.deref-in-Choice-2.result.now t c.decreases (ap phrase_of c.in-Choice.is) c.deref-in-Choice-2.ensures (second _ _ _), tt)

pub resolve-choice_behind-requires : goal.resolve-choice_behind-requires
resolve-choice_behind-requires t c = (behind_falls (phrase_of c.args.expression.now) (syntax.Choice (phrase_of c.in-Choice.test.value) (phrase_of c.in-Choice.left.value) (phrase_of c.in-Choice.right.value)) c.in-Choice.right.value c.deref-in-Choice-3.result.now t c.decreases (ap phrase_of c.in-Choice.is) c.deref-in-Choice-3.ensures (third _ _ _), tt)

pub resolve-resolve_arguments-requires : goal.resolve-resolve_arguments-requires
resolve-resolve_arguments-requires t c = (row_falls (phrase_of c.args.expression.now) c.in-Call.name c.in-Call.row.items c.as_slice-in-Call-2.result.now t c.decreases (ap phrase_of c.in-Call.is ∙ call_written c.in-Call.name c.in-Call.row) c.as_slice-in-Call-2.ensures.value, tt)

pub resolve_boxed-resolve-requires : goal.resolve_boxed-resolve-requires
resolve_boxed-resolve-requires t c = (to_none _ t c.decreases, tt)

pub resolve_behind-resolve_boxed-requires : goal.resolve_behind-resolve_boxed-requires
resolve_behind-resolve_boxed-requires t c = (to_one _ t c.decreases, tt)

pub choice_behind-resolve_boxed-requires : goal.choice_behind-resolve_boxed-requires
choice_behind-resolve_boxed-requires t c = (to_one _ t c.decreases, tt)

pub resolve_arguments-resolve_argument-requires : goal.resolve_arguments-resolve_argument-requires
resolve_arguments-resolve_argument-requires t c = (expression_falls c.args.row.now c.loop-place.place c.index-row-place.result t c.decreases c.loop-place-test.true c.index-row-place.is, tt)
