use Rattle.std.proofs.Common.{refl, ap, sym, subst, ◌≡◌, [], ◌∷◌, ◌++◌, append_assoc, take, ◌∙◌, rules, w32, FitsSigned}
use Rattle.std.proofs.lemmas.Result.{IfOk-weaker}
use Rattle.std.proofs.lemmas.Int.{to_z-of_z}
use Rattle.vx_flow.specs.declared.graph.Operand.TheVariants.{Held, Number}
use Rattle.vx_ast.specs.Tree.{NoMore, Literal, Local, Global, Element, Unary, Binary, Both, Either, Choice, Apply, ReadInt, MoreInput}
use Rattle.vx_ast.specs.declared.tree.UnaryOperator.TheVariants.{Not}
use Rattle.vx_ast.specs.View.{tree_of, argument_before, arguments_in}
use Rattle.vx_lower.specs.Holds.{literal, local}
use Rattle.vx_lower.specs.Builds.{Ready}
use Rattle.vx_lower.specs.Emits.{EmitsRow, EmitsFront, Delivers}
use Rattle.vx_lower.proofs.Places.{take_next, take_whole}
use Rattle.vx_lower.proofs.TreeViews.{view-Call}
use Rattle.vx_lower.proofs.Emitting.{tests_as, tests_value, tests_compare, tests_not, tests_both, tests_either, emits_as, emits_operand, emits_global, emits_more, emits_element, emits_unary, emits_binary, emits_both, emits_either, emits_choice, emits_call, no_front, number_front, array_front, more_arguments, whole_row}
use Rattle.vx_lower.specs.Adds.{Delivered}
use Rattle.vx_lower.specs.Fits.{RowsWell}
use Rattle.vx_lower.proofs.FittingTrees.{well_as, operand_well, global_well, more_well, element_well, unary_well, binary_well, both_well, either_well, choice_well, call_well, tests_well_as, value_tested, compare_tested, not_tested, both_asked, either_asked, no_row, number_row, array_row, behind_well, more_arguments_well}
use Rattle.vx_lower.proofs.expressions.+values.Goals as goal

pub emit_value-returns-in-Number-clause-code : goal.emit_value-returns-in-Number-clause-code
emit_value-returns-in-Number-clause-code t c =
    let f : FitsSigned w32 c.in-Number.n = search rules in
    IfOk-weaker c.deliver.result _ _ (λ r h.
    let d = subst (λ z. Ready c.args.b.now → Delivers c.args.dest (Number z) r c.args.b.now c.deliver.new.b) (to_z-of_z w32 c.in-Number.n f) h in
    emits_as c.args.words.now c.args.dest r c.args.b.now c.deliver.new.b (Literal c.in-Number.n) (tree_of c.args.e.now) (ap tree_of (sym c.in-Number.is))
    (emits_operand c.args.words.now (Literal c.in-Number.n) c.args.dest (Number c.in-Number.n) r c.args.b.now c.deliver.new.b (λ B m. literal) (λ is. tt) d)) c.deliver.ensures.code

pub emit_value-returns-in-Number-clause-fits : goal.emit_value-returns-in-Number-clause-fits
emit_value-returns-in-Number-clause-fits t c =
    let f : FitsSigned w32 c.in-Number.n = search rules in
    IfOk-weaker c.deliver.result _ _ (λ r h.
    let d = subst (λ z. Delivered c.args.dest (Number z) r c.args.b.now c.deliver.new.b) (to_z-of_z w32 c.in-Number.n f) h in
    well_as c.args.dest r c.args.b.now c.deliver.new.b (Literal c.in-Number.n) (tree_of c.args.e.now) (ap tree_of (sym c.in-Number.is))
    (operand_well (Literal c.in-Number.n) c.args.dest (Number c.in-Number.n) r c.args.b.now c.deliver.new.b (λ k texts roles f is. tt) refl d)) c.deliver.ensures.steps

pub emit_value-returns-in-Scalar-clause-code : goal.emit_value-returns-in-Scalar-clause-code
emit_value-returns-in-Scalar-clause-code t c =
    IfOk-weaker c.deliver-in-Scalar.result _ _ (λ r d. emits_as c.args.words.now c.args.dest r c.args.b.now c.deliver-in-Scalar.new.b (Local c.in-Scalar.x) (tree_of c.args.e.now) (ap tree_of (sym c.in-Scalar.is))
    (emits_operand c.args.words.now (Local c.in-Scalar.x) c.args.dest (Held c.in-Scalar.x) r c.args.b.now c.deliver-in-Scalar.new.b (λ B m. local) (λ is. is) d)) c.deliver-in-Scalar.ensures.code

pub emit_value-returns-in-Scalar-clause-fits : goal.emit_value-returns-in-Scalar-clause-fits
emit_value-returns-in-Scalar-clause-fits t c =
    IfOk-weaker c.deliver-in-Scalar.result _ _ (λ r d. well_as c.args.dest r c.args.b.now c.deliver-in-Scalar.new.b (Local c.in-Scalar.x) (tree_of c.args.e.now) (ap tree_of (sym c.in-Scalar.is))
    (operand_well (Local c.in-Scalar.x) c.args.dest (Held c.in-Scalar.x) r c.args.b.now c.deliver-in-Scalar.new.b (λ k texts roles f is. f.scalars c.in-Scalar.x is) refl d)) c.deliver-in-Scalar.ensures.steps

pub emit_value-returns-in_ok-t-in-Global-clause-code : goal.emit_value-returns-in_ok-t-in-Global-clause-code
emit_value-returns-in_ok-t-in-Global-clause-code t c =
    emits_as c.args.words.now c.args.dest (Held c.in_ok-t-in-Global.t) c.args.b.now c.load.new.b (Global c.in-Global.array) (tree_of c.args.e.now) (ap tree_of (sym c.in-Global.is))
    (emits_global c.args.words.now c.in-Global.array c.in_ok-t-in-Global.t c.args.dest c.args.b.now c.load.new.b c.in_ok-t-in-Global.ensures.code)

pub emit_value-returns-in_ok-t-in-Global-clause-fits : goal.emit_value-returns-in_ok-t-in-Global-clause-fits
emit_value-returns-in_ok-t-in-Global-clause-fits t c =
    well_as c.args.dest (Held c.in_ok-t-in-Global.t) c.args.b.now c.load.new.b (Global c.in-Global.array) (tree_of c.args.e.now) (ap tree_of (sym c.in-Global.is))
    (global_well c.in-Global.array c.in_ok-t-in-Global.t c.args.dest c.args.b.now c.load.new.b c.in_ok-t-in-Global.ensures.steps)

pub emit_value-returns-in_ok-other-in-Both-clause-code : goal.emit_value-returns-in_ok-other-in-Both-clause-code
emit_value-returns-in_ok-other-in-Both-clause-code t c =
    IfOk-weaker c.both_behind.result _ _ (λ o h. emits_as c.args.words.now c.args.dest o c.args.b.now c.both_behind.new.b (Both (tree_of c.deref-in-Both.result.now) (tree_of c.deref-in-Both-2.result.now)) (tree_of c.args.e.now) (ap (λ z. Both (tree_of z) (tree_of c.deref-in-Both-2.result.now)) c.deref-in-Both.ensures ∙ ap (λ z. Both (tree_of c.in-Both.x.value) (tree_of z)) c.deref-in-Both-2.ensures ∙ ap tree_of (sym c.in-Both.is)) (h (tree_of c.deref-in-Both.result.now) c.args.b.now c.in_ok-other-in-Both.ensures.code)) c.both_behind.ensures.code

pub emit_value-returns-in_ok-other-in-Both-clause-fits : goal.emit_value-returns-in_ok-other-in-Both-clause-fits
emit_value-returns-in_ok-other-in-Both-clause-fits t c =
    IfOk-weaker c.both_behind.result _ _ (λ o h. well_as c.args.dest o c.args.b.now c.both_behind.new.b (Both (tree_of c.deref-in-Both.result.now) (tree_of c.deref-in-Both-2.result.now)) (tree_of c.args.e.now) (ap (λ z. Both (tree_of z) (tree_of c.deref-in-Both-2.result.now)) c.deref-in-Both.ensures ∙ ap (λ z. Both (tree_of c.in-Both.x.value) (tree_of z)) c.deref-in-Both-2.ensures ∙ ap tree_of (sym c.in-Both.is)) (h (tree_of c.deref-in-Both.result.now) c.args.b.now c.in_ok-other-in-Both.ensures.fits)) c.both_behind.ensures.fits

pub both_behind-returns-clause-code : goal.both_behind-returns-clause-code
both_behind-returns-clause-code t c = λ x start first.
    emits_both c.args.words.now c.in_ok-t.t c.args.other c.in_ok-j.j c.args.dest x (tree_of c.args.y.now) c.in_ok-right.right start c.args.b.now c.target.new.b c.emit_value.new.b c.put.new.self c.join.new.b c.put-2.new.self c.close.new.self first c.in_ok-t.ensures c.in_ok-right.ensures.code c.in_ok-put.ensures.code c.in_ok-j.ensures c.in_ok-put-2.ensures.code c.close.ensures

pub both_behind-returns-clause-fits : goal.both_behind-returns-clause-fits
both_behind-returns-clause-fits t c = λ x start first.
    both_well c.in_ok-t.t c.args.other c.in_ok-j.j c.args.dest x (tree_of c.args.y.now) c.in_ok-right.right start c.args.b.now c.target.new.b c.emit_value.new.b c.put.new.self c.join.new.b c.put-2.new.self c.close.new.self first c.in_ok-t.ensures c.in_ok-right.ensures.fits c.in_ok-put.ensures.steps c.in_ok-j.ensures c.in_ok-put-2.ensures.steps c.close.ensures

pub emit_value-returns-in_ok-other-in-Either-clause-code : goal.emit_value-returns-in_ok-other-in-Either-clause-code
emit_value-returns-in_ok-other-in-Either-clause-code t c =
    IfOk-weaker c.either_behind.result _ _ (λ o h. emits_as c.args.words.now c.args.dest o c.args.b.now c.either_behind.new.b (Either (tree_of c.deref-in-Either.result.now) (tree_of c.deref-in-Either-2.result.now)) (tree_of c.args.e.now) (ap (λ z. Either (tree_of z) (tree_of c.deref-in-Either-2.result.now)) c.deref-in-Either.ensures ∙ ap (λ z. Either (tree_of c.in-Either.x.value) (tree_of z)) c.deref-in-Either-2.ensures ∙ ap tree_of (sym c.in-Either.is)) (h (tree_of c.deref-in-Either.result.now) c.args.b.now c.in_ok-other-in-Either.ensures.code)) c.either_behind.ensures.code

pub emit_value-returns-in_ok-other-in-Either-clause-fits : goal.emit_value-returns-in_ok-other-in-Either-clause-fits
emit_value-returns-in_ok-other-in-Either-clause-fits t c =
    IfOk-weaker c.either_behind.result _ _ (λ o h. well_as c.args.dest o c.args.b.now c.either_behind.new.b (Either (tree_of c.deref-in-Either.result.now) (tree_of c.deref-in-Either-2.result.now)) (tree_of c.args.e.now) (ap (λ z. Either (tree_of z) (tree_of c.deref-in-Either-2.result.now)) c.deref-in-Either.ensures ∙ ap (λ z. Either (tree_of c.in-Either.x.value) (tree_of z)) c.deref-in-Either-2.ensures ∙ ap tree_of (sym c.in-Either.is)) (h (tree_of c.deref-in-Either.result.now) c.args.b.now c.in_ok-other-in-Either.ensures.fits)) c.either_behind.ensures.fits

pub either_behind-returns-clause-code : goal.either_behind-returns-clause-code
either_behind-returns-clause-code t c = λ x start first.
    emits_either c.args.words.now c.in_ok-t.t c.args.other c.in_ok-j.j c.args.dest x (tree_of c.args.y.now) c.in_ok-right.right start c.args.b.now c.target.new.b c.put.new.self c.join.new.b c.emit_value.new.b c.put-2.new.self c.close.new.self first c.in_ok-t.ensures c.in_ok-put.ensures.code c.in_ok-j.ensures c.in_ok-right.ensures.code c.in_ok-put-2.ensures.code c.close.ensures

pub either_behind-returns-clause-fits : goal.either_behind-returns-clause-fits
either_behind-returns-clause-fits t c = λ x start first.
    either_well c.in_ok-t.t c.args.other c.in_ok-j.j c.args.dest x (tree_of c.args.y.now) c.in_ok-right.right start c.args.b.now c.target.new.b c.put.new.self c.join.new.b c.emit_value.new.b c.put-2.new.self c.close.new.self first c.in_ok-t.ensures c.in_ok-put.ensures.steps c.in_ok-j.ensures c.in_ok-right.ensures.fits c.in_ok-put-2.ensures.steps c.close.ensures

pub emit_value-returns-in-Element-clause-code : goal.emit_value-returns-in-Element-clause-code
emit_value-returns-in-Element-clause-code t c =
    IfOk-weaker c.emit_element.result _ _ (λ o h. emits_as c.args.words.now c.args.dest o c.args.b.now c.emit_element.new.b (Element c.in-Element.array (tree_of c.deref.result.now)) (tree_of c.args.e.now) (ap (λ z. Element c.in-Element.array (tree_of z)) c.deref.ensures ∙ ap tree_of (sym c.in-Element.is)) h) c.emit_element.ensures.code

pub emit_element-returns-clause-code : goal.emit_element-returns-clause-code
emit_element-returns-clause-code t c =
    emits_element c.args.words.now c.args.array c.in_ok-t.t c.in_ok-place.place c.args.dest (tree_of c.args.x.now) c.in_ok-index.index c.args.b.now c.emit_value.new.b c.check.new.b c.load.new.b c.in_ok-index.ensures.code c.in_ok-place.ensures.code c.in_ok-t.ensures.code

pub emit_value-returns-in-Call-clause-code : goal.emit_value-returns-in-Call-clause-code
emit_value-returns-in-Call-clause-code t c =
    let h : Apply c.in-Call.function (arguments_in c.as_slice.result.now) ≡ tree_of c.args.e.now = ap (λ z. Apply c.in-Call.function (arguments_in z)) c.as_slice.ensures.value ∙ sym (view-Call c.in-Call.function c.in-Call.all) ∙ ap tree_of (sym c.in-Call.is) in
    IfOk-weaker c.emit_call.result _ _ (λ o k. emits_as c.args.words.now c.args.dest o c.args.b.now c.emit_call.new.b (Apply c.in-Call.function (arguments_in c.as_slice.result.now)) (tree_of c.args.e.now) h k) c.emit_call.ensures.code

pub emit_call-returns-clause-code : goal.emit_call-returns-clause-code
emit_call-returns-clause-code t c =
    emits_call c.args.words.now c.args.function c.in_ok-t.t c.in_ok-next.next c.args.dest (arguments_in c.args.all.now) c.in_ok-arguments.arguments c.args.b.now c.emit_arguments.new.b c.target.new.b c.reserve.new.self c.close.new.self c.in_ok-arguments.ensures.code c.in_ok-t.ensures c.in_ok-next.ensures c.close.ensures

pub emit_value-returns-in-Element-clause-fits : goal.emit_value-returns-in-Element-clause-fits
emit_value-returns-in-Element-clause-fits t c =
    IfOk-weaker c.emit_element.result _ _ (λ o h. well_as c.args.dest o c.args.b.now c.emit_element.new.b (Element c.in-Element.array (tree_of c.deref.result.now)) (tree_of c.args.e.now) (ap (λ z. Element c.in-Element.array (tree_of z)) c.deref.ensures ∙ ap tree_of (sym c.in-Element.is)) h) c.emit_element.ensures.fits

pub emit_element-returns-clause-fits : goal.emit_element-returns-clause-fits
emit_element-returns-clause-fits t c =
    element_well c.args.array c.in_ok-t.t c.in_ok-place.place c.args.dest (tree_of c.args.x.now) c.in_ok-index.index c.args.b.now c.emit_value.new.b c.check.new.b c.load.new.b c.in_ok-index.ensures.fits c.in_ok-place.ensures.fits c.in_ok-t.ensures.steps

pub emit_value-returns-in-Call-clause-fits : goal.emit_value-returns-in-Call-clause-fits
emit_value-returns-in-Call-clause-fits t c =
    let h : Apply c.in-Call.function (arguments_in c.as_slice.result.now) ≡ tree_of c.args.e.now = ap (λ z. Apply c.in-Call.function (arguments_in z)) c.as_slice.ensures.value ∙ sym (view-Call c.in-Call.function c.in-Call.all) ∙ ap tree_of (sym c.in-Call.is) in
    IfOk-weaker c.emit_call.result _ _ (λ o k. well_as c.args.dest o c.args.b.now c.emit_call.new.b (Apply c.in-Call.function (arguments_in c.as_slice.result.now)) (tree_of c.args.e.now) h k) c.emit_call.ensures.fits

pub emit_call-returns-clause-fits : goal.emit_call-returns-clause-fits
emit_call-returns-clause-fits t c =
    call_well c.args.function c.in_ok-t.t c.in_ok-next.next c.args.dest (arguments_in c.args.all.now) c.in_ok-arguments.arguments c.args.b.now c.emit_arguments.new.b c.target.new.b c.reserve.new.self c.close.new.self c.in_ok-arguments.ensures.fits c.in_ok-t.ensures c.in_ok-next.ensures c.close.ensures

pub emit_value-returns-in-Unary-clause-code : goal.emit_value-returns-in-Unary-clause-code
emit_value-returns-in-Unary-clause-code t c =
    IfOk-weaker c.emit_unary.result _ _ (λ o h. emits_as c.args.words.now c.args.dest o c.args.b.now c.emit_unary.new.b (Unary c.in-Unary.operator (tree_of c.deref-in-Unary.result.now)) (tree_of c.args.e.now) (ap (λ z. Unary c.in-Unary.operator (tree_of z)) c.deref-in-Unary.ensures ∙ ap tree_of (sym c.in-Unary.is)) h) c.emit_unary.ensures.code

pub emit_unary-returns-clause-code : goal.emit_unary-returns-clause-code
emit_unary-returns-clause-code t c =
    emits_unary c.args.words.now c.args.operator c.in_ok-t.t c.args.dest (tree_of c.args.x.now) c.in_ok-o.o c.args.b.now c.emit_value.new.b c.unary.new.b c.in_ok-o.ensures.code c.in_ok-t.ensures.code

pub emit_value-returns-in_ok-left-in-Binary-clause-code : goal.emit_value-returns-in_ok-left-in-Binary-clause-code
emit_value-returns-in_ok-left-in-Binary-clause-code t c =
    IfOk-weaker c.binary_behind.result _ _ (λ o h. emits_as c.args.words.now c.args.dest o c.args.b.now c.binary_behind.new.b (Binary c.in-Binary.operator (tree_of c.deref-in-Binary.result.now) (tree_of c.deref-in-Binary-2.result.now)) (tree_of c.args.e.now) (ap (λ z. Binary c.in-Binary.operator (tree_of z) (tree_of c.deref-in-Binary-2.result.now)) c.deref-in-Binary.ensures ∙ ap (λ z. Binary c.in-Binary.operator (tree_of c.in-Binary.x.value) (tree_of z)) c.deref-in-Binary-2.ensures ∙ ap tree_of (sym c.in-Binary.is)) (h (tree_of c.deref-in-Binary.result.now) c.args.b.now c.in_ok-left-in-Binary.ensures.code)) c.binary_behind.ensures.code

pub binary_behind-returns-clause-code : goal.binary_behind-returns-clause-code
binary_behind-returns-clause-code t c = λ x start first.
    emits_binary c.args.words.now c.args.operator c.in_ok-t.t c.args.dest x (tree_of c.args.y.now) c.args.left c.in_ok-right.right start c.args.b.now c.emit_value.new.b c.combine.new.b first c.in_ok-right.ensures.code c.in_ok-t.ensures.code

pub emit_value-returns-in_ok-first-in-Choice-clause-code : goal.emit_value-returns-in_ok-first-in-Choice-clause-code
emit_value-returns-in_ok-first-in-Choice-clause-code t c =
    IfOk-weaker c.choice_behind.result _ _ (λ o h. emits_as c.args.words.now c.args.dest o c.args.b.now c.choice_behind.new.b (Choice (tree_of c.deref-in-Choice.result.now) (tree_of c.deref-in-Choice-2.result.now) (tree_of c.deref-in-Choice-3.result.now)) (tree_of c.args.e.now) (ap (λ z. Choice (tree_of z) (tree_of c.deref-in-Choice-2.result.now) (tree_of c.deref-in-Choice-3.result.now)) c.deref-in-Choice.ensures ∙ ap (λ z. Choice (tree_of c.in-Choice.c.value) (tree_of z) (tree_of c.deref-in-Choice-3.result.now)) c.deref-in-Choice-2.ensures ∙ ap (λ z. Choice (tree_of c.in-Choice.c.value) (tree_of c.in-Choice.x.value) (tree_of z)) c.deref-in-Choice-3.ensures ∙ ap tree_of (sym c.in-Choice.is)) (h c.args.dest (tree_of c.deref-in-Choice.result.now) (tree_of c.deref-in-Choice-2.result.now) c.in_ok-first-in-Choice.first c.args.b.now c.emit_test-in-Choice.new.b c.target.new.b c.in_ok-no-in-Choice.ensures.code c.in_ok-t-in-Choice.ensures c.in_ok-first-in-Choice.ensures.code)) c.choice_behind.ensures.code

pub choice_behind-returns-clause-code : goal.choice_behind-returns-clause-code
choice_behind-returns-clause-code t c = λ dest k x ox start tested aimed first at second.
    emits_choice c.args.words.now c.args.t c.args.other c.in_ok-j.j dest k x (tree_of c.args.y.now) ox c.in_ok-second.second start tested aimed c.args.b.now c.join.new.b c.emit_value.new.b c.close.new.self first at second c.in_ok-j.ensures c.in_ok-second.ensures.code c.close.ensures

pub emit_value-returns-in-Unary-clause-fits : goal.emit_value-returns-in-Unary-clause-fits
emit_value-returns-in-Unary-clause-fits t c =
    IfOk-weaker c.emit_unary.result _ _ (λ o h. well_as c.args.dest o c.args.b.now c.emit_unary.new.b (Unary c.in-Unary.operator (tree_of c.deref-in-Unary.result.now)) (tree_of c.args.e.now) (ap (λ z. Unary c.in-Unary.operator (tree_of z)) c.deref-in-Unary.ensures ∙ ap tree_of (sym c.in-Unary.is)) h) c.emit_unary.ensures.fits

pub emit_unary-returns-clause-fits : goal.emit_unary-returns-clause-fits
emit_unary-returns-clause-fits t c =
    unary_well c.args.operator c.in_ok-t.t c.args.dest (tree_of c.args.x.now) c.in_ok-o.o c.args.b.now c.emit_value.new.b c.unary.new.b c.in_ok-o.ensures.fits c.in_ok-t.ensures.steps

pub emit_value-returns-in_ok-left-in-Binary-clause-fits : goal.emit_value-returns-in_ok-left-in-Binary-clause-fits
emit_value-returns-in_ok-left-in-Binary-clause-fits t c =
    IfOk-weaker c.binary_behind.result _ _ (λ o h. well_as c.args.dest o c.args.b.now c.binary_behind.new.b (Binary c.in-Binary.operator (tree_of c.deref-in-Binary.result.now) (tree_of c.deref-in-Binary-2.result.now)) (tree_of c.args.e.now) (ap (λ z. Binary c.in-Binary.operator (tree_of z) (tree_of c.deref-in-Binary-2.result.now)) c.deref-in-Binary.ensures ∙ ap (λ z. Binary c.in-Binary.operator (tree_of c.in-Binary.x.value) (tree_of z)) c.deref-in-Binary-2.ensures ∙ ap tree_of (sym c.in-Binary.is)) (h (tree_of c.deref-in-Binary.result.now) c.args.b.now c.in_ok-left-in-Binary.ensures.fits)) c.binary_behind.ensures.fits

pub binary_behind-returns-clause-fits : goal.binary_behind-returns-clause-fits
binary_behind-returns-clause-fits t c = λ x start first.
    binary_well c.args.operator c.in_ok-t.t c.args.dest x (tree_of c.args.y.now) c.args.left c.in_ok-right.right start c.args.b.now c.emit_value.new.b c.combine.new.b first c.in_ok-right.ensures.fits c.in_ok-t.ensures.fits

pub emit_value-returns-in_ok-first-in-Choice-clause-fits : goal.emit_value-returns-in_ok-first-in-Choice-clause-fits
emit_value-returns-in_ok-first-in-Choice-clause-fits t c =
    IfOk-weaker c.choice_behind.result _ _ (λ o h. well_as c.args.dest o c.args.b.now c.choice_behind.new.b (Choice (tree_of c.deref-in-Choice.result.now) (tree_of c.deref-in-Choice-2.result.now) (tree_of c.deref-in-Choice-3.result.now)) (tree_of c.args.e.now) (ap (λ z. Choice (tree_of z) (tree_of c.deref-in-Choice-2.result.now) (tree_of c.deref-in-Choice-3.result.now)) c.deref-in-Choice.ensures ∙ ap (λ z. Choice (tree_of c.in-Choice.c.value) (tree_of z) (tree_of c.deref-in-Choice-3.result.now)) c.deref-in-Choice-2.ensures ∙ ap (λ z. Choice (tree_of c.in-Choice.c.value) (tree_of c.in-Choice.x.value) (tree_of z)) c.deref-in-Choice-3.ensures ∙ ap tree_of (sym c.in-Choice.is)) (h c.args.dest (tree_of c.deref-in-Choice.result.now) (tree_of c.deref-in-Choice-2.result.now) c.in_ok-first-in-Choice.first c.args.b.now c.emit_test-in-Choice.new.b c.target.new.b c.in_ok-no-in-Choice.ensures.fits c.in_ok-t-in-Choice.ensures c.in_ok-first-in-Choice.ensures.fits)) c.choice_behind.ensures.fits

pub choice_behind-returns-clause-fits : goal.choice_behind-returns-clause-fits
choice_behind-returns-clause-fits t c = λ dest k x ox start tested aimed first at second.
    choice_well c.args.t c.args.other c.in_ok-j.j dest k x (tree_of c.args.y.now) ox c.in_ok-second.second start tested aimed c.args.b.now c.join.new.b c.emit_value.new.b c.close.new.self first at second c.in_ok-j.ensures c.in_ok-second.ensures.fits c.close.ensures

pub emit_value-returns-in_ok-t-in-MoreInput-clause-code : goal.emit_value-returns-in_ok-t-in-MoreInput-clause-code
emit_value-returns-in_ok-t-in-MoreInput-clause-code t c =
    emits_as c.args.words.now c.args.dest (Held c.in_ok-t-in-MoreInput.t) c.args.b.now c.more.new.b MoreInput (tree_of c.args.e.now) (ap tree_of (sym c.in-MoreInput.is))
    (emits_more c.args.words.now c.in_ok-t-in-MoreInput.t c.args.dest c.args.b.now c.more.new.b c.in_ok-t-in-MoreInput.ensures.code)

pub emit_value-returns-in_ok-t-in-MoreInput-clause-fits : goal.emit_value-returns-in_ok-t-in-MoreInput-clause-fits
emit_value-returns-in_ok-t-in-MoreInput-clause-fits t c =
    well_as c.args.dest (Held c.in_ok-t-in-MoreInput.t) c.args.b.now c.more.new.b MoreInput (tree_of c.args.e.now) (ap tree_of (sym c.in-MoreInput.is))
    (more_well c.in_ok-t-in-MoreInput.t c.args.dest c.args.b.now c.more.new.b c.in_ok-t-in-MoreInput.ensures.steps)

pub emit_value-returns-in-ReadInt-clause-code : goal.emit_value-returns-in-ReadInt-clause-code
emit_value-returns-in-ReadInt-clause-code t c =
    IfOk-weaker c.read.result _ _ (λ o h. emits_as c.args.words.now c.args.dest o c.args.b.now c.read.new.b ReadInt (tree_of c.args.e.now) (ap tree_of (sym c.in-ReadInt.is)) h) c.read.ensures.code

pub emit_value-returns-in-ReadInt-clause-fits : goal.emit_value-returns-in-ReadInt-clause-fits
emit_value-returns-in-ReadInt-clause-fits t c =
    IfOk-weaker c.read.result _ _ (λ o h. well_as c.args.dest o c.args.b.now c.read.new.b ReadInt (tree_of c.args.e.now) (ap tree_of (sym c.in-ReadInt.is)) h) c.read.ensures.fits

pub emit_test-returns-in-None-clause-code : goal.emit_test-returns-in-None-clause-code
emit_test-returns-in-None-clause-code t c = c.test_value-in-None.ensures.code

pub emit_test-returns-in-None-clause-fits : goal.emit_test-returns-in-None-clause-fits
emit_test-returns-in-None-clause-fits t c = c.test_value-in-None.ensures.fits

pub emit_test-returns-in_ok-no-in-Not-clause-code : goal.emit_test-returns-in_ok-no-in-Not-clause-code
emit_test-returns-in_ok-no-in-Not-clause-code t c =
    tests_as c.args.words.now c.turn.result c.args.b.now c.turn.new.self (Unary Not (tree_of c.deref.result.now)) (tree_of c.args.e.now) (ap (λ z. Unary Not (tree_of z)) c.deref.ensures ∙ ap (λ z. Unary z (tree_of c.in-Unary.x.value)) (sym c.in-Not.is) ∙ ap tree_of (sym c.in-Unary.is))
    (tests_not c.args.words.now c.in_ok-no-in-Not.no c.turn.result (tree_of c.deref.result.now) c.args.b.now c.emit_test.new.b c.turn.new.self c.in_ok-no-in-Not.ensures.code c.turn.ensures)

pub emit_test-returns-in_ok-no-in-Not-clause-fits : goal.emit_test-returns-in_ok-no-in-Not-clause-fits
emit_test-returns-in_ok-no-in-Not-clause-fits t c =
    tests_well_as c.turn.result c.args.b.now c.turn.new.self (Unary Not (tree_of c.deref.result.now)) (tree_of c.args.e.now) (ap (λ z. Unary Not (tree_of z)) c.deref.ensures ∙ ap (λ z. Unary z (tree_of c.in-Unary.x.value)) (sym c.in-Not.is) ∙ ap tree_of (sym c.in-Unary.is))
    (not_tested c.in_ok-no-in-Not.no c.turn.result (tree_of c.deref.result.now) c.args.b.now c.emit_test.new.b c.turn.new.self c.in_ok-no-in-Not.ensures.fits c.turn.ensures)

pub emit_test-returns-in_ok-right-in-Some-clause-code : goal.emit_test-returns-in_ok-right-in-Some-clause-code
emit_test-returns-in_ok-right-in-Some-clause-code t c =
    IfOk-weaker c.compared.result _ _ (λ n h. tests_as c.args.words.now n c.args.b.now c.compared.new.b (Binary c.in-Binary.operator (tree_of c.deref-in-Some.result.now) (tree_of c.deref-in-Some-2.result.now)) (tree_of c.args.e.now) (ap (λ z. Binary c.in-Binary.operator (tree_of z) (tree_of c.deref-in-Some-2.result.now)) c.deref-in-Some.ensures ∙ ap (λ z. Binary c.in-Binary.operator (tree_of c.in-Binary.x.value) (tree_of z)) c.deref-in-Some-2.ensures ∙ ap tree_of (sym c.in-Binary.is))
    (tests_compare c.args.words.now c.in-Binary.operator c.in-Some.compare n (tree_of c.deref-in-Some.result.now) (tree_of c.deref-in-Some-2.result.now) c.in_ok-left-in-Some.left c.in_ok-right-in-Some.right c.args.b.now c.emit_value.new.b c.emit_value-in-Some.new.b c.compared.new.b (sym c.comparison.ensures ∙ c.in-Some.is) c.in_ok-left-in-Some.ensures.code c.in_ok-right-in-Some.ensures.code h)) c.compared.ensures.code

pub emit_test-returns-in_ok-right-in-Some-clause-fits : goal.emit_test-returns-in_ok-right-in-Some-clause-fits
emit_test-returns-in_ok-right-in-Some-clause-fits t c =
    IfOk-weaker c.compared.result _ _ (λ n h. tests_well_as n c.args.b.now c.compared.new.b (Binary c.in-Binary.operator (tree_of c.deref-in-Some.result.now) (tree_of c.deref-in-Some-2.result.now)) (tree_of c.args.e.now) (ap (λ z. Binary c.in-Binary.operator (tree_of z) (tree_of c.deref-in-Some-2.result.now)) c.deref-in-Some.ensures ∙ ap (λ z. Binary c.in-Binary.operator (tree_of c.in-Binary.x.value) (tree_of z)) c.deref-in-Some-2.ensures ∙ ap tree_of (sym c.in-Binary.is))
    (compare_tested c.in-Binary.operator c.in-Some.compare n (tree_of c.deref-in-Some.result.now) (tree_of c.deref-in-Some-2.result.now) c.in_ok-left-in-Some.left c.in_ok-right-in-Some.right c.args.b.now c.emit_value.new.b c.emit_value-in-Some.new.b c.compared.new.b c.in_ok-left-in-Some.ensures.fits c.in_ok-right-in-Some.ensures.fits h)) c.compared.ensures.steps

pub emit_test-returns-in_ok-second-in-Both-clause-code : goal.emit_test-returns-in_ok-second-in-Both-clause-code
emit_test-returns-in_ok-second-in-Both-clause-code t c =
    IfOk-weaker c.meet.result _ _ (λ n h. tests_as c.args.words.now n c.args.b.now c.meet.new.b (Both (tree_of c.deref-in-Both.result.now) (tree_of c.deref-in-Both-2.result.now)) (tree_of c.args.e.now) (ap (λ z. Both (tree_of z) (tree_of c.deref-in-Both-2.result.now)) c.deref-in-Both.ensures ∙ ap (λ z. Both (tree_of c.in-Both.x.value) (tree_of z)) c.deref-in-Both-2.ensures ∙ ap tree_of (sym c.in-Both.is))
    (tests_both c.args.words.now c.in_ok-first-in-Both.first c.in_ok-second-in-Both.second n (tree_of c.deref-in-Both.result.now) (tree_of c.deref-in-Both-2.result.now) c.args.b.now c.emit_test-in-Both.new.b c.emit_test-in-Both-2.new.b c.meet.new.b c.in_ok-first-in-Both.ensures.code c.in_ok-second-in-Both.ensures.code h)) c.meet.ensures

pub emit_test-returns-in_ok-second-in-Both-clause-fits : goal.emit_test-returns-in_ok-second-in-Both-clause-fits
emit_test-returns-in_ok-second-in-Both-clause-fits t c =
    IfOk-weaker c.meet.result _ _ (λ n h. tests_well_as n c.args.b.now c.meet.new.b (Both (tree_of c.deref-in-Both.result.now) (tree_of c.deref-in-Both-2.result.now)) (tree_of c.args.e.now) (ap (λ z. Both (tree_of z) (tree_of c.deref-in-Both-2.result.now)) c.deref-in-Both.ensures ∙ ap (λ z. Both (tree_of c.in-Both.x.value) (tree_of z)) c.deref-in-Both-2.ensures ∙ ap tree_of (sym c.in-Both.is))
    (both_asked c.in_ok-first-in-Both.first c.in_ok-second-in-Both.second n (tree_of c.deref-in-Both.result.now) (tree_of c.deref-in-Both-2.result.now) c.args.b.now c.emit_test-in-Both.new.b c.emit_test-in-Both-2.new.b c.meet.new.b c.in_ok-first-in-Both.ensures.fits c.in_ok-second-in-Both.ensures.fits h)) c.meet.ensures

pub emit_test-returns-in_ok-no-in-Either-clause-code : goal.emit_test-returns-in_ok-no-in-Either-clause-code
emit_test-returns-in_ok-no-in-Either-clause-code t c =
    tests_as c.args.words.now c.in_ok-no-in-Either.no c.args.b.now c.close.new.self (Either (tree_of c.deref-in-Either.result.now) (tree_of c.deref-in-Either-2.result.now)) (tree_of c.args.e.now) (ap (λ z. Either (tree_of z) (tree_of c.deref-in-Either-2.result.now)) c.deref-in-Either.ensures ∙ ap (λ z. Either (tree_of c.in-Either.x.value) (tree_of z)) c.deref-in-Either-2.ensures ∙ ap tree_of (sym c.in-Either.is))
    (tests_either c.args.words.now c.in_ok-first-in-Either.first c.in_ok-no-in-Either.no c.in_ok-yes-in-Either.yes (tree_of c.deref-in-Either.result.now) (tree_of c.deref-in-Either-2.result.now) c.args.b.now c.emit_test-in-Either.new.b c.join.new.b c.emit_test-in-Either-2.new.b c.close.new.self c.in_ok-first-in-Either.ensures.code c.in_ok-yes-in-Either.ensures c.in_ok-no-in-Either.ensures.code c.close.ensures)

pub emit_test-returns-in_ok-no-in-Either-clause-fits : goal.emit_test-returns-in_ok-no-in-Either-clause-fits
emit_test-returns-in_ok-no-in-Either-clause-fits t c =
    tests_well_as c.in_ok-no-in-Either.no c.args.b.now c.close.new.self (Either (tree_of c.deref-in-Either.result.now) (tree_of c.deref-in-Either-2.result.now)) (tree_of c.args.e.now) (ap (λ z. Either (tree_of z) (tree_of c.deref-in-Either-2.result.now)) c.deref-in-Either.ensures ∙ ap (λ z. Either (tree_of c.in-Either.x.value) (tree_of z)) c.deref-in-Either-2.ensures ∙ ap tree_of (sym c.in-Either.is))
    (either_asked c.in_ok-first-in-Either.first c.in_ok-no-in-Either.no c.in_ok-yes-in-Either.yes (tree_of c.deref-in-Either.result.now) (tree_of c.deref-in-Either-2.result.now) c.args.b.now c.emit_test-in-Either.new.b c.join.new.b c.emit_test-in-Either-2.new.b c.close.new.self c.in_ok-first-in-Either.ensures.fits c.in_ok-yes-in-Either.ensures c.in_ok-no-in-Either.ensures.fits c.close.ensures)

pub test_value-returns-clause-code : goal.test_value-returns-clause-code
test_value-returns-clause-code t c =
    IfOk-weaker c.truth.result _ _ (λ n h. tests_value c.args.words.now n (tree_of c.args.e.now) c.in_ok-o.o c.args.b.now c.emit_value.new.b c.truth.new.b c.in_ok-o.ensures.code h) c.truth.ensures.code

pub test_value-returns-clause-fits : goal.test_value-returns-clause-fits
test_value-returns-clause-fits t c =
    IfOk-weaker c.truth.result _ _ (λ n h. value_tested n (tree_of c.args.e.now) c.in_ok-o.o c.args.b.now c.emit_value.new.b c.truth.new.b c.in_ok-o.ensures.fits h) c.truth.ensures.steps

pub emit_argument-returns-in_ok-push-in-Number-clause-code : goal.emit_argument-returns-in_ok-push-in-Number-clause-code
emit_argument-returns-in_ok-push-in-Number-clause-code t c = λ r. record { own = c.in_ok-value-in-Number.value ∷ []; is = c.in_ok-push-in-Number.ensures.ok; front = subst (λ z. EmitsFront c.args.words.now (argument_before z NoMore) (c.in_ok-value-in-Number.value ∷ []) c.args.b.now c.emit_value.new.b) (sym c.in-Number.is) (number_front c.args.words.now (tree_of c.in-Number.e) c.in_ok-value-in-Number.value c.args.b.now c.emit_value.new.b c.in_ok-value-in-Number.ensures.code r) }

pub emit_argument-returns-in_ok-push-in-Number-clause-fits : goal.emit_argument-returns-in_ok-push-in-Number-clause-fits
emit_argument-returns-in_ok-push-in-Number-clause-fits t c = behind_well (argument_before c.args.argument.now NoMore) (c.in_ok-value-in-Number.value ∷ []) c.args.passed.now c.push.new.self c.args.b.now c.emit_value.new.b c.in_ok-push-in-Number.ensures.ok (subst (λ z. RowsWell c.args.words.now (argument_before z NoMore) (c.in_ok-value-in-Number.value ∷ []) c.args.b.now c.emit_value.new.b) (sym c.in-Number.is) (number_row (tree_of c.in-Number.e) c.in_ok-value-in-Number.value c.args.b.now c.emit_value.new.b c.in_ok-value-in-Number.ensures.fits))

pub emit_argument-returns-in_ok-push-in-Array-2-clause-code : goal.emit_argument-returns-in_ok-push-in-Array-2-clause-code
emit_argument-returns-in_ok-push-in-Array-2-clause-code t c = λ r. record { own = Held c.in_ok-base-in-Array.base ∷ c.of.result ∷ []; is = c.in_ok-push-in-Array-2.ensures.ok ∙ ap (λ z. z ++ c.of.result ∷ []) c.in_ok-push-in-Array.ensures.ok ∙ append_assoc c.args.passed.now (Held c.in_ok-base-in-Array.base ∷ []) (c.of.result ∷ []); front = subst (λ z. EmitsFront c.args.words.now (argument_before z NoMore) (Held c.in_ok-base-in-Array.base ∷ c.of.result ∷ []) c.args.b.now c.stand.new.b) (sym c.in-Array.is) (array_front c.args.words.now c.in-Array.array c.in_ok-base-in-Array.base c.of.result c.args.b.now c.stand.new.b c.of.ensures c.in_ok-base-in-Array.ensures.code r) }

pub emit_argument-returns-in_ok-push-in-Array-2-clause-fits : goal.emit_argument-returns-in_ok-push-in-Array-2-clause-fits
emit_argument-returns-in_ok-push-in-Array-2-clause-fits t c = behind_well (argument_before c.args.argument.now NoMore) (Held c.in_ok-base-in-Array.base ∷ c.of.result ∷ []) c.args.passed.now c.push-in-Array-2.new.self c.args.b.now c.stand.new.b (c.in_ok-push-in-Array-2.ensures.ok ∙ ap (λ z. z ++ c.of.result ∷ []) c.in_ok-push-in-Array.ensures.ok ∙ append_assoc c.args.passed.now (Held c.in_ok-base-in-Array.base ∷ []) (c.of.result ∷ [])) (subst (λ z. RowsWell c.args.words.now (argument_before z NoMore) (Held c.in_ok-base-in-Array.base ∷ c.of.result ∷ []) c.args.b.now c.stand.new.b) (sym c.in-Array.is) (array_row c.in-Array.array c.in_ok-base-in-Array.base c.of.result c.args.b.now c.stand.new.b c.of.ensures c.in_ok-base-in-Array.ensures.fits))

pub emit_arguments-loop-argument-init : goal.emit_arguments-loop-argument-init
emit_arguments-loop-argument-init t c = (
  λ r. subst (λ z. EmitsFront c.args.words.now NoMore z c.args.b.now c.args.b.now) (sym c.new-passed.ensures) (no_front c.args.words.now c.args.b.now r),
  subst (λ z. RowsWell c.args.words.now NoMore z c.args.b.now c.args.b.now) (sym c.new-passed.ensures) (no_row c.args.b.now),
)

pub emit_arguments-loop-argument-preserved : goal.emit_arguments-loop-argument-preserved
emit_arguments-loop-argument-preserved t c =
    let next = sym (take_next c.args.all.now c.loop-argument.argument-index c.argument-item.result c.loop-argument-test.true c.argument-item.is) in (
      λ r. subst (λ z. EmitsFront c.args.words.now (arguments_in z) c.emit_argument.new.passed c.args.b.now c.emit_argument.new.b) next (more_arguments c.args.words.now (take c.loop-argument.argument-index c.args.all.now) c.argument-item.result c.loop-argument.passed c.emit_argument.new.passed c.args.b.now c.loop-argument.b c.emit_argument.new.b c.loop-argument.invariant.0 c.in_ok-emit_argument.ensures.code r),
      subst (λ z. RowsWell c.args.words.now (arguments_in z) c.emit_argument.new.passed c.args.b.now c.emit_argument.new.b) next (more_arguments_well (take c.loop-argument.argument-index c.args.all.now) c.argument-item.result c.loop-argument.passed c.emit_argument.new.passed c.args.b.now c.loop-argument.b c.emit_argument.new.b c.loop-argument.invariant.1 c.in_ok-emit_argument.ensures.fits),
    )

pub emit_arguments-returns-clause-code : goal.emit_arguments-returns-clause-code
emit_arguments-returns-clause-code t c = λ r. subst (λ z. EmitsRow c.args.words.now (arguments_in z) c.loop-argument.passed c.args.b.now c.loop-argument.b) (take_whole c.args.all.now c.loop-argument.argument-index c.loop-argument-test.false) (whole_row c.args.words.now (arguments_in (take c.loop-argument.argument-index c.args.all.now)) c.loop-argument.passed c.args.b.now c.loop-argument.b c.loop-argument.invariant.0 r)

pub emit_arguments-returns-clause-fits : goal.emit_arguments-returns-clause-fits
emit_arguments-returns-clause-fits t c = subst (λ z. RowsWell c.args.words.now (arguments_in z) c.loop-argument.passed c.args.b.now c.loop-argument.b) (take_whole c.args.all.now c.loop-argument.argument-index c.loop-argument-test.false) c.loop-argument.invariant.1
