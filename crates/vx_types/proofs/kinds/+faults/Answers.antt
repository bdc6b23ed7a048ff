use Rattle.std.proofs.Common.{◌≡◌, ◌++◌, drop, List, Option, refl, ap, sym, ◌∙◌}
use Rattle.std.proofs.lemmas.List.{drop_all}
use Rattle.vx_ast.specs.declared.names.Fault.{Fault}
use Rattle.vx_ast.specs.declared.syntax.Expression.{Expression}
use Rattle.vx_ast.specs.declared.syntax.Argument.{Argument}
use Rattle.vx_ast.specs.Faults.{least, phrase_faults}
use Rattle.vx_ast.specs.Syntax as syntax
use Rattle.vx_ast.specs.Syntax.{Phrase}
use Rattle.vx_ast.specs.Tree.{One}
use Rattle.vx_ast.specs.SyntaxView.{phrase_of, row_in}
use Rattle.vx_types.proofs.Leasts.{least_append}
use Rattle.vx_types.proofs.Rows.{application_faults, row_faults_step, row_faults_end}
use Rattle.vx_types.proofs.Views.{call_written}
use Rattle.vx_types.proofs.Weights.{part_falls, application_falls, argument_falls, to_one, only, left, right, second, third}
use Rattle.vx_types.proofs.kinds.+faults.Goals as goal

pub note_expression-returns-in-Call : goal.note_expression-returns-in-Call
note_expression-returns-in-Call t c =
    c.note_application.ensures
    ∙ ap (λ (z : List Argument). least c.args.first (phrase_faults c.args.names.now (syntax.Call c.in-Call.name (row_in z)))) c.as_slice-in-Call.ensures.value
    ∙ ap (λ (z : Phrase One). least c.args.first (phrase_faults c.args.names.now z)) (sym (ap phrase_of c.in-Call.is ∙ call_written c.in-Call.name c.in-Call.row))

pub note_application-returns : goal.note_application-returns
note_application-returns t c =
    application_faults c.args.whole c.args.names.now c.args.name.now c.args.row.now _ c.as_slice.result.now c.named-meant.result c.wanted_by.result.now c.args.first c.note_called-kind.result c.note_row.result
    refl c.as_slice.ensures c.named-meant.ensures c.wanted_by.ensures c.note_called-kind.ensures c.note_row.ensures

pub note_row-loop-place-preserved : goal.note_row-loop-place-preserved
note_row-loop-place-preserved t c =
    row_faults_step c.args.names.now c.args.takes.now c.loop-place.least c.note_argument-least.result c.args.row.now c.loop-place.place c.index-row-place.result c.taken_at.result _ c.loop-place-test.true c.index-row-place.is c.taken_at.ensures c.loop-place.invariant c.note_argument-least.ensures

pub note_row-returns : goal.note_row-returns
note_row-returns t c = row_faults_end c.args.names.now (drop c.loop-place.place c.args.takes.now) c.loop-place.least (drop c.loop-place.place c.args.row.now) _ (drop_all c.loop-place.place c.args.row.now c.loop-place-test.false) c.loop-place.invariant

pub note_expression-returns-in-Binary : goal.note_expression-returns-in-Binary
note_expression-returns-in-Binary t c =
    let left = phrase_faults c.args.names.now (phrase_of c.deref-in-Binary.result.now) in
    let right = phrase_faults c.args.names.now (phrase_of c.deref-in-Binary-2.result.now) in
    let e : phrase_of c.args.expression.now ≡ syntax.Binary c.in-Binary.field-0 (phrase_of c.deref-in-Binary.result.now) (phrase_of c.deref-in-Binary-2.result.now) =
    ap phrase_of c.in-Binary.is ∙ ap (λ (z : Expression). syntax.Binary c.in-Binary.field-0 (phrase_of z) (phrase_of c.in-Binary.right.value)) (sym c.deref-in-Binary.ensures)
    ∙ ap (λ (z : Expression). syntax.Binary c.in-Binary.field-0 (phrase_of c.deref-in-Binary.result.now) (phrase_of z)) (sym c.deref-in-Binary-2.ensures) in
    c.note_expression-in-Binary.ensures ∙ ap (λ (z : Option Fault). least z right) c.note_expression-before.ensures ∙ sym (least_append c.args.first left right)
    ∙ ap (λ (z : Phrase One). least c.args.first (phrase_faults c.args.names.now z)) (sym e)

pub note_expression-returns-in-Both : goal.note_expression-returns-in-Both
note_expression-returns-in-Both t c =
    let left = phrase_faults c.args.names.now (phrase_of c.deref-in-Both.result.now) in
    let right = phrase_faults c.args.names.now (phrase_of c.deref-in-Both-2.result.now) in
    let e : phrase_of c.args.expression.now ≡ syntax.Both (phrase_of c.deref-in-Both.result.now) (phrase_of c.deref-in-Both-2.result.now) =
    ap phrase_of c.in-Both.is ∙ ap (λ (z : Expression). syntax.Both (phrase_of z) (phrase_of c.in-Both.right.value)) (sym c.deref-in-Both.ensures)
    ∙ ap (λ (z : Expression). syntax.Both (phrase_of c.deref-in-Both.result.now) (phrase_of z)) (sym c.deref-in-Both-2.ensures) in
    c.note_expression-in-Both.ensures ∙ ap (λ (z : Option Fault). least z right) c.note_expression-before-in-Both.ensures ∙ sym (least_append c.args.first left right)
    ∙ ap (λ (z : Phrase One). least c.args.first (phrase_faults c.args.names.now z)) (sym e)

pub note_expression-returns-in-Either : goal.note_expression-returns-in-Either
note_expression-returns-in-Either t c =
    let left = phrase_faults c.args.names.now (phrase_of c.deref-in-Either.result.now) in
    let right = phrase_faults c.args.names.now (phrase_of c.deref-in-Either-2.result.now) in
    let e : phrase_of c.args.expression.now ≡ syntax.Either (phrase_of c.deref-in-Either.result.now) (phrase_of c.deref-in-Either-2.result.now) =
    ap phrase_of c.in-Either.is ∙ ap (λ (z : Expression). syntax.Either (phrase_of z) (phrase_of c.in-Either.right.value)) (sym c.deref-in-Either.ensures)
    ∙ ap (λ (z : Expression). syntax.Either (phrase_of c.deref-in-Either.result.now) (phrase_of z)) (sym c.deref-in-Either-2.ensures) in
    c.note_expression-in-Either.ensures ∙ ap (λ (z : Option Fault). least z right) c.note_expression-before-in-Either.ensures ∙ sym (least_append c.args.first left right)
    ∙ ap (λ (z : Phrase One). least c.args.first (phrase_faults c.args.names.now z)) (sym e)

pub note_expression-returns-in-Choice : goal.note_expression-returns-in-Choice
note_expression-returns-in-Choice t c =
    let test = phrase_faults c.args.names.now (phrase_of c.deref-in-Choice.result.now) in
    let left = phrase_faults c.args.names.now (phrase_of c.deref-in-Choice-2.result.now) in
    let right = phrase_faults c.args.names.now (phrase_of c.deref-in-Choice-3.result.now) in
    let e : phrase_of c.args.expression.now ≡ syntax.Choice (phrase_of c.deref-in-Choice.result.now) (phrase_of c.deref-in-Choice-2.result.now) (phrase_of c.deref-in-Choice-3.result.now) =
    ap phrase_of c.in-Choice.is ∙ ap (λ (z : Expression). syntax.Choice (phrase_of z) (phrase_of c.in-Choice.left.value) (phrase_of c.in-Choice.right.value)) (sym c.deref-in-Choice.ensures)
    ∙ ap (λ (z : Expression). syntax.Choice (phrase_of c.deref-in-Choice.result.now) (phrase_of z) (phrase_of c.in-Choice.right.value)) (sym c.deref-in-Choice-2.ensures)
    ∙ ap (λ (z : Expression). syntax.Choice (phrase_of c.deref-in-Choice.result.now) (phrase_of c.deref-in-Choice-2.result.now) (phrase_of z)) (sym c.deref-in-Choice-3.ensures) in
    c.note_expression-in-Choice.ensures ∙ ap (λ (z : Option Fault). least z right) (c.note_expression-before-in-Choice.ensures ∙ ap (λ (z : Option Fault). least z left) c.note_expression-tested.ensures)
    ∙ sym (least_append (least c.args.first test) left right) ∙ sym (least_append c.args.first test (left ++ right))
    ∙ ap (λ (z : Phrase One). least c.args.first (phrase_faults c.args.names.now z)) (sym e)

pub note_expression-note_expression-requires : goal.note_expression-note_expression-requires
note_expression-note_expression-requires t c = (part_falls (phrase_of c.args.expression.now) (syntax.Element c.in-Element.name (phrase_of c.in-Element.index.value)) c.in-Element.index.value c.deref.result.now t c.decreases (ap phrase_of c.in-Element.is) c.deref.ensures (only _), tt)

pub note_expression-note_expression-requires-in-Unary : goal.note_expression-note_expression-requires-in-Unary
note_expression-note_expression-requires-in-Unary t c = (part_falls (phrase_of c.args.expression.now) (syntax.Unary c.in-Unary.field-0 (phrase_of c.in-Unary.operand.value)) c.in-Unary.operand.value c.deref-in-Unary.result.now t c.decreases (ap phrase_of c.in-Unary.is) c.deref-in-Unary.ensures (only _), tt)

pub note_expression-note_expression-before-requires : goal.note_expression-note_expression-before-requires
note_expression-note_expression-before-requires t c = (part_falls (phrase_of c.args.expression.now) (syntax.Binary c.in-Binary.field-0 (phrase_of c.in-Binary.left.value) (phrase_of c.in-Binary.right.value)) c.in-Binary.left.value c.deref-in-Binary.result.now t c.decreases (ap phrase_of c.in-Binary.is) c.deref-in-Binary.ensures (left _ _), tt)

pub note_expression-note_expression-requires-in-Binary : goal.note_expression-note_expression-requires-in-Binary
note_expression-note_expression-requires-in-Binary t c = (part_falls (phrase_of c.args.expression.now) (syntax.Binary c.in-Binary.field-0 (phrase_of c.in-Binary.left.value) (phrase_of c.in-Binary.right.value)) c.in-Binary.right.value c.deref-in-Binary-2.result.now t c.decreases (ap phrase_of c.in-Binary.is) c.deref-in-Binary-2.ensures (right _ _), tt)

pub note_expression-note_expression-before-requires-in-Both : goal.note_expression-note_expression-before-requires-in-Both
note_expression-note_expression-before-requires-in-Both t c = (part_falls (phrase_of c.args.expression.now) (syntax.Both (phrase_of c.in-Both.left.value) (phrase_of c.in-Both.right.value)) c.in-Both.left.value c.deref-in-Both.result.now t c.decreases (ap phrase_of c.in-Both.is) c.deref-in-Both.ensures (left _ _), tt)

pub note_expression-note_expression-requires-in-Both : goal.note_expression-note_expression-requires-in-Both
note_expression-note_expression-requires-in-Both t c = (part_falls (phrase_of c.args.expression.now) (syntax.Both (phrase_of c.in-Both.left.value) (phrase_of c.in-Both.right.value)) c.in-Both.right.value c.deref-in-Both-2.result.now t c.decreases (ap phrase_of c.in-Both.is) c.deref-in-Both-2.ensures (right _ _), tt)

pub note_expression-note_expression-before-requires-in-Either : goal.note_expression-note_expression-before-requires-in-Either
note_expression-note_expression-before-requires-in-Either t c = (part_falls (phrase_of c.args.expression.now) (syntax.Either (phrase_of c.in-Either.left.value) (phrase_of c.in-Either.right.value)) c.in-Either.left.value c.deref-in-Either.result.now t c.decreases (ap phrase_of c.in-Either.is) c.deref-in-Either.ensures (left _ _), tt)

pub note_expression-note_expression-requires-in-Either : goal.note_expression-note_expression-requires-in-Either
note_expression-note_expression-requires-in-Either t c = (part_falls (phrase_of c.args.expression.now) (syntax.Either (phrase_of c.in-Either.left.value) (phrase_of c.in-Either.right.value)) c.in-Either.right.value c.deref-in-Either-2.result.now t c.decreases (ap phrase_of c.in-Either.is) c.deref-in-Either-2.ensures (right _ _), tt)

pub note_expression-note_expression-tested-requires : goal.note_expression-note_expression-tested-requires
note_expression-note_expression-tested-requires t c = (part_falls (phrase_of c.args.expression.now) (syntax.Choice (phrase_of c.in-Choice.test.value) (phrase_of c.in-Choice.left.value) (phrase_of c.in-Choice.right.value)) c.in-Choice.test.value c.deref-in-Choice.result.now t c.decreases (ap phrase_of c.in-Choice.is) c.deref-in-Choice.ensures (left _ _), tt)

pub note_expression-note_expression-before-requires-in-Choice : goal.note_expression-note_expression-before-requires-in-Choice
note_expression-note_expression-before-requires-in-Choice t c = (part_falls (phrase_of c.args.expression.now) (syntax.Choice (phrase_of c.in-Choice.test.value) (phrase_of c.in-Choice.left.value) (phrase_of c.in-Choice.right.value)) c.in-Choice.left.value c.deref-in-Choice-2.result.now t c.decreases (ap phrase_of c.in-Choice.is) c.deref-in-Choice-2.ensures (second _ _ _), tt)

pub note_expression-note_expression-requires-in-Choice : goal.note_expression-note_expression-requires-in-Choice
note_expression-note_expression-requires-in-Choice t c = (part_falls (phrase_of c.args.expression.now) (syntax.Choice (phrase_of c.in-Choice.test.value) (phrase_of c.in-Choice.left.value) (phrase_of c.in-Choice.right.value)) c.in-Choice.right.value c.deref-in-Choice-3.result.now t c.decreases (ap phrase_of c.in-Choice.is) c.deref-in-Choice-3.ensures (third _ _ _), tt)

pub note_expression-note_application-requires : goal.note_expression-note_application-requires
note_expression-note_application-requires t c = (application_falls (phrase_of c.args.expression.now) c.in-Call.name c.in-Call.row.items c.as_slice-in-Call.result.now t c.decreases (ap phrase_of c.in-Call.is ∙ call_written c.in-Call.name c.in-Call.row) c.as_slice-in-Call.ensures.value, tt)

pub note_application-note_row-requires : goal.note_application-note_row-requires
note_application-note_row-requires t c = (to_one _ t c.decreases, tt)

pub note_row-note_argument-least-requires : goal.note_row-note_argument-least-requires
note_row-note_argument-least-requires t c = (argument_falls c.args.row.now c.loop-place.place c.index-row-place.result t c.decreases c.loop-place-test.true c.index-row-place.is, tt)
