use Rattle.std.proofs.Common.{◌≡◌, ◌∙◌, ap, sym, subst, refl, rules, arith, ℤ, pos, w32, FitsSigned, slice_get, Some, Err, length, drop, map, [], ◌∷◌, ◌++◌, ◌+◌, ◌<◌}
use Rattle.std.proofs.lemmas.Int.{to_z-of_z}
use Rattle.std.proofs.lemmas.Option.{slice_get_read}
use Rattle.std.specs.Option.{option_map}
use Rattle.vx_ast.specs.Tree as tree
use Rattle.vx_ast.specs.Tree.{Apply}
use Rattle.vx_base.specs.Arithmetic.{sum_of, difference_of}
use Rattle.vx_ast.specs.Meaning.{NumberArgument, With, Falls, does, test_of, value, and_then, combined}
use Rattle.vx_ast.proofs.Arguments.{numbers_are}
use Rattle.vx_plain.specs.Kept.{store_of}
use Rattle.vx_ast.specs.View.{all_in, code_of, step_of, arguments_in, row_in, tree_of, place_of}
use Rattle.vx_plain.specs.Interpreting.{Comes, itself, calls_at, spot_at}
use Rattle.vx_plain.proofs.InterpreterSteps.{stop_then, on_then, stop_index, on_index, go_through, go_around, gives, view_Call, view_Block, one_more, chain, from_located, stop_located, given_to, called, stop_result, on_result}
use Rattle.std.proofs.lemmas.List.{drop_all}
use Rattle.vx_plain.proofs.InterpreterLoops.{row_stop, row_more, so_far_begin, so_far_end, number_more, array_more, fall_on, while_more, do_out, do_on, do_more, for_stop, for_out, for_step_stop, for_more}
use Rattle.vx_plain.proofs.interpreter.+running.Goals as goal
use Rattle.vx_plain.proofs.interpreter.+running.Goals.{evaluate_arguments-in-Number+in_ok-x-in-Number+in_ok-push-in-Number, evaluate_arguments-in-Array+in_ok-push-in-Array}

pub evaluate-returns-in_err-index-in-Element : goal.evaluate-returns-in_err-index-in-Element
evaluate-returns-in_err-index-in-Element t c =
    rw (c.in-Element.is, ← c.deref.ensures) (stop_then _ _ _ c.in_err-index-in-Element.field-0.0 _ _ _ c.from_residual-in_err-index-in-Element.ensures.1 c.in_err-index-in-Element.ensures)

pub evaluate-returns-in_err-i-in-Element : goal.evaluate-returns-in_err-i-in-Element
evaluate-returns-in_err-i-in-Element t c =
    let f : FitsSigned w32 c.in_ok-index-in-Element.index = search rules in
    rw (c.in-Element.is, ← c.deref.ensures) (on_then _ _ _ _ _ _ _ c.in_ok-index-in-Element.ensures.is (stop_index _ _ c.in_err-i-in-Element.field-0.0 _ _ _ c.from_residual-in_err-i-in-Element.ensures.1 c.in_err-i-in-Element.ensures.0 (rw (to_z-of_z w32 c.in_ok-index-in-Element.index f, c.spot-array.ensures) at c.in_err-i-in-Element.ensures.1)))

pub evaluate-returns-in_ok-i-in-Element : goal.evaluate-returns-in_ok-i-in-Element
evaluate-returns-in_ok-i-in-Element t c =
    let f : FitsSigned w32 c.in_ok-index-in-Element.index = search rules in
    let g : FitsSigned w32 c.word-in-Element.result = search rules in
    rw (c.in-Element.is, ← c.deref.ensures) (on_then _ _ _ _ _ _ _ c.in_ok-index-in-Element.ensures.is (on_index _ _ _ c.in_ok-i-in-Element.i _ _ _ (rw (to_z-of_z w32 c.in_ok-index-in-Element.index f, c.spot-array.ensures) at c.in_ok-i-in-Element.ensures) (gives c.word-in-Element.result _ _ _ g (rw c.spot-array.ensures at c.word-in-Element.ensures) refl)))

pub evaluate-returns-in_err-x-in-Unary : goal.evaluate-returns-in_err-x-in-Unary
evaluate-returns-in_err-x-in-Unary t c =
    rw (c.in-Unary.is, ← c.deref-in-Unary.ensures) (stop_then _ _ _ c.in_err-x-in-Unary.field-0.0 _ _ _ c.from_residual-in_err-x-in-Unary.ensures.1 c.in_err-x-in-Unary.ensures)

pub evaluate-returns-in_ok-x-in-Unary : goal.evaluate-returns-in_ok-x-in-Unary
evaluate-returns-in_ok-x-in-Unary t c =
    let f : FitsSigned w32 c.in_ok-x-in-Unary.x = search rules in
    let g : FitsSigned w32 c.unary.result = search rules in
    rw (c.in-Unary.is, ← c.deref-in-Unary.ensures) (on_then _ _ _ _ _ _ _ c.in_ok-x-in-Unary.ensures.is (gives c.unary.result _ _ _ g (rw (to_z-of_z w32 c.in_ok-x-in-Unary.x f) at c.unary.ensures) refl))

pub evaluate-returns-in_err-x-in-Binary : goal.evaluate-returns-in_err-x-in-Binary
evaluate-returns-in_err-x-in-Binary t c =
    rw (c.in-Binary.is, ← c.deref-in-Binary.ensures) (stop_then _ _ _ c.in_err-x-in-Binary.field-0.0 _ _ _ c.from_residual-in_err-x-in-Binary.ensures.1 c.in_err-x-in-Binary.ensures)

pub evaluate-returns-in_err-y-in-Binary : goal.evaluate-returns-in_err-y-in-Binary
evaluate-returns-in_err-y-in-Binary t c =
    rw (c.in-Binary.is, ← c.deref-in-Binary.ensures, ← c.deref-in-Binary-2.ensures) (on_then _ _ _ _ _ _ _ c.in_ok-x-in-Binary.ensures.is (stop_then _ _ _ c.in_err-y-in-Binary.field-0.0 _ _ _ c.from_residual-in_err-y-in-Binary.ensures.1 c.in_err-y-in-Binary.ensures))

pub evaluate-returns-in_ok-y-in-Binary : goal.evaluate-returns-in_ok-y-in-Binary
evaluate-returns-in_ok-y-in-Binary t c =
    let f : FitsSigned w32 c.in_ok-x-in-Binary.x = search rules in
    let g : FitsSigned w32 c.in_ok-y-in-Binary.y = search rules in
    rw (c.in-Binary.is, ← c.deref-in-Binary.ensures, ← c.deref-in-Binary-2.ensures) (on_then _ _ _ _ _ _ _ c.in_ok-x-in-Binary.ensures.is (on_then _ _ _ _ _ _ _ c.in_ok-y-in-Binary.ensures.is (rw (to_z-of_z w32 c.in_ok-x-in-Binary.x f, to_z-of_z w32 c.in_ok-y-in-Binary.y g) at c.combine.ensures)))

pub evaluate-returns-in_err-x-in-Both : goal.evaluate-returns-in_err-x-in-Both
evaluate-returns-in_err-x-in-Both t c =
    rw (c.in-Both.is, ← c.deref-in-Both.ensures) (stop_then _ _ _ c.in_err-x-in-Both.field-0.0 _ _ _ c.from_residual-in_err-x-in-Both.ensures.1 c.in_err-x-in-Both.ensures)

pub evaluate-returns-in_err-y-in-Both : goal.evaluate-returns-in_err-y-in-Both
evaluate-returns-in_err-y-in-Both t c =
    rw (c.in-Both.is, ← c.deref-in-Both.ensures, ← c.deref-in-Both-2.ensures) (on_then _ _ _ _ _ _ _ c.in_ok-x-in-Both.ensures.is (go_through _ _ _ c.in_ok-x-in-Both.x _ _ c.if-x-eq0.false (stop_then _ _ _ c.in_err-y-in-Both.field-0.0 _ _ _ c.from_residual-in_err-y-in-Both.ensures.1 c.in_err-y-in-Both.ensures)))

pub evaluate-returns-in_ok-y-in-Both : goal.evaluate-returns-in_ok-y-in-Both
evaluate-returns-in_ok-y-in-Both t c =
    let f : FitsSigned w32 c.in_ok-y-in-Both.y = search rules in
    let g : FitsSigned w32 c.truth.result = search rules in
    rw (c.in-Both.is, ← c.deref-in-Both.ensures, ← c.deref-in-Both-2.ensures) (on_then _ _ _ _ _ _ _ c.in_ok-x-in-Both.ensures.is (go_through _ _ _ c.in_ok-x-in-Both.x _ _ c.if-x-eq0.false (on_then _ _ _ _ _ _ _ c.in_ok-y-in-Both.ensures.is (gives c.truth.result _ _ _ g (rw (to_z-of_z w32 c.in_ok-y-in-Both.y f) at c.truth.ensures) refl))))

pub evaluate-returns-in_err-x-in-Either : goal.evaluate-returns-in_err-x-in-Either
evaluate-returns-in_err-x-in-Either t c =
    rw (c.in-Either.is, ← c.deref-in-Either.ensures) (stop_then _ _ _ c.in_err-x-in-Either.field-0.0 _ _ _ c.from_residual-in_err-x-in-Either.ensures.1 c.in_err-x-in-Either.ensures)

pub evaluate-returns-in_err-y-in-Either : goal.evaluate-returns-in_err-y-in-Either
evaluate-returns-in_err-y-in-Either t c =
    let h : FitsSigned w32 c.in_ok-x-in-Either.x = search rules in
    rw (c.in-Either.is, ← c.deref-in-Either.ensures, ← c.deref-in-Either-2.ensures) (on_then _ _ _ _ _ _ _ c.in_ok-x-in-Either.ensures.is (go_around _ _ _ c.in_ok-x-in-Either.x _ _ h c.if-x-ne0.false (stop_then _ _ _ c.in_err-y-in-Either.field-0.0 _ _ _ c.from_residual-in_err-y-in-Either.ensures.1 c.in_err-y-in-Either.ensures)))

pub evaluate-returns-in_ok-y-in-Either : goal.evaluate-returns-in_ok-y-in-Either
evaluate-returns-in_ok-y-in-Either t c =
    let h : FitsSigned w32 c.in_ok-x-in-Either.x = search rules in
    let f : FitsSigned w32 c.in_ok-y-in-Either.y = search rules in
    let g : FitsSigned w32 c.truth-in-Either.result = search rules in
    rw (c.in-Either.is, ← c.deref-in-Either.ensures, ← c.deref-in-Either-2.ensures) (on_then _ _ _ _ _ _ _ c.in_ok-x-in-Either.ensures.is (go_around _ _ _ c.in_ok-x-in-Either.x _ _ h c.if-x-ne0.false (on_then _ _ _ _ _ _ _ c.in_ok-y-in-Either.ensures.is (gives c.truth-in-Either.result _ _ _ g (rw (to_z-of_z w32 c.in_ok-y-in-Either.y f) at c.truth-in-Either.ensures) refl))))

pub evaluate-returns-then-x-ne0 : goal.evaluate-returns-then-x-ne0
evaluate-returns-then-x-ne0 t c =
    rw (c.in-Either.is, ← c.deref-in-Either.ensures) (on_then _ _ _ _ _ _ _ c.in_ok-x-in-Either.ensures.is (go_through _ _ _ c.in_ok-x-in-Either.x _ _ c.if-x-ne0.true (record { is = refl })))

pub evaluate-returns-in_err-test-in-Choice : goal.evaluate-returns-in_err-test-in-Choice
evaluate-returns-in_err-test-in-Choice t c =
    rw (c.in-Choice.is, ← c.deref-in-Choice.ensures) (stop_then _ _ _ c.in_err-test-in-Choice.field-0.0 _ _ _ c.from_residual-in_err-test-in-Choice.ensures.1 c.in_err-test-in-Choice.ensures)

pub evaluate-returns-then-test-ne0 : goal.evaluate-returns-then-test-ne0
evaluate-returns-then-test-ne0 t c =
    rw (c.in-Choice.is, ← c.deref-in-Choice.ensures, ← c.deref-then-test-ne0.ensures) (on_then _ _ _ _ _ _ _ c.in_ok-test-in-Choice.ensures.is (go_through _ _ _ c.in_ok-test-in-Choice.test _ _ c.if-test-ne0.true c.evaluate-then-test-ne0.ensures))

pub evaluate-returns-else-test-ne0 : goal.evaluate-returns-else-test-ne0
evaluate-returns-else-test-ne0 t c =
    let h : FitsSigned w32 c.in_ok-test-in-Choice.test = search rules in
    rw (c.in-Choice.is, ← c.deref-in-Choice.ensures, ← c.deref-else-test-ne0.ensures) (on_then _ _ _ _ _ _ _ c.in_ok-test-in-Choice.ensures.is (go_around _ _ _ c.in_ok-test-in-Choice.test _ _ h c.if-test-ne0.false c.evaluate-else-test-ne0.ensures))

pub evaluate-returns-in_err-given-in-Call : goal.evaluate-returns-in_err-given-in-Call
evaluate-returns-in_err-given-in-Call t c =
    let e : tree_of c.args.e.now ≡ Apply c.in-Call.f (arguments_in c.as_slice.result.now) = ap tree_of c.in-Call.is ∙ view_Call c.in-Call.f c.in-Call.row ∙ ap (λ l. Apply c.in-Call.f (arguments_in l)) (sym c.as_slice.ensures.value) in
    rw e (stop_then _ _ _ c.in_err-given-in-Call.field-0.0 _ _ _ c.from_residual-in_err-given-in-Call.ensures.1 c.in_err-given-in-Call.ensures)

pub evaluate-returns-in_ok-given-in-Call : goal.evaluate-returns-in_ok-given-in-Call
evaluate-returns-in_ok-given-in-Call t c =
    let e : tree_of c.args.e.now ≡ Apply c.in-Call.f (arguments_in c.as_slice.result.now) = ap tree_of c.in-Call.is ∙ view_Call c.in-Call.f c.in-Call.row ∙ ap (λ l. Apply c.in-Call.f (arguments_in l)) (sym c.as_slice.ensures.value) in
    let g = c.in_ok-given-in-Call.ensures in
    rw e (on_then _ _ _ _ _ _ _ g.is (c.call.ensures g.all g.numbers (g.arrays ∙ sym c.as_slice-in-Call.ensures.value)))

pub act-returns-in_err-place-in-Assign : goal.act-returns-in_err-place-in-Assign
act-returns-in_err-place-in-Assign t c =
    rw c.in-Assign.is (stop_located (spot_at c.args.program.now c.args.at.now) (calls_at c.args.program.now c.args.at.now) (place_of c.in-Assign.target) (λ old u. value (spot_at c.args.program.now c.args.at.now) (calls_at c.args.program.now c.args.at.now) (tree_of c.in-Assign.e) u) (store_of c.args.store.now) _ _ c.in_err-place-in-Assign.field-0.0 _ c.from_residual-in_err-place-in-Assign.ensures.1 c.in_err-place-in-Assign.ensures)

pub act-returns-in_err-place-in-Compound : goal.act-returns-in_err-place-in-Compound
act-returns-in_err-place-in-Compound t c =
    rw c.in-Compound.is (stop_located (spot_at c.args.program.now c.args.at.now) (calls_at c.args.program.now c.args.at.now) (place_of c.in-Compound.target) (λ old u. and_then (value (spot_at c.args.program.now c.args.at.now) (calls_at c.args.program.now c.args.at.now) (tree_of c.in-Compound.e) u) (λ v w. combined c.in-Compound.operator old v w)) (store_of c.args.store.now) _ _ c.in_err-place-in-Compound.field-0.0 _ c.from_residual-in_err-place-in-Compound.ensures.1 c.in_err-place-in-Compound.ensures)

pub act-returns-in_err-place-in-Increase : goal.act-returns-in_err-place-in-Increase
act-returns-in_err-place-in-Increase t c =
    rw c.in-Increase.is (stop_located (spot_at c.args.program.now c.args.at.now) (calls_at c.args.program.now c.args.at.now) (place_of c.in-Increase.target) (λ old u. With (sum_of old (pos 1)) u) (store_of c.args.store.now) _ _ c.in_err-place-in-Increase.field-0.0 _ c.from_residual-in_err-place-in-Increase.ensures.1 c.in_err-place-in-Increase.ensures)

pub act-returns-in_err-place-in-Decrease : goal.act-returns-in_err-place-in-Decrease
act-returns-in_err-place-in-Decrease t c =
    rw c.in-Decrease.is (stop_located (spot_at c.args.program.now c.args.at.now) (calls_at c.args.program.now c.args.at.now) (place_of c.in-Decrease.target) (λ old u. With (difference_of old (pos 1)) u) (store_of c.args.store.now) _ _ c.in_err-place-in-Decrease.field-0.0 _ c.from_residual-in_err-place-in-Decrease.ensures.1 c.in_err-place-in-Decrease.ensures)

pub act-returns-in_err-v-in-Assign : goal.act-returns-in_err-v-in-Assign
act-returns-in_err-v-in-Assign t c =
    rw c.in-Assign.is (from_located (spot_at c.args.program.now c.args.at.now) (calls_at c.args.program.now c.args.at.now) (place_of c.in-Assign.target) (λ old u. value (spot_at c.args.program.now c.args.at.now) (calls_at c.args.program.now c.args.at.now) (tree_of c.in-Assign.e) u) (store_of c.args.store.now) _ _ _ _ _ c.in_ok-place-in-Assign.ensures.is (stop_then _ _ _ c.in_err-v-in-Assign.field-0.0 _ _ _ c.from_residual-in_err-v-in-Assign.ensures.1 c.in_err-v-in-Assign.ensures))

pub act-returns-in_ok-v-in-Assign : goal.act-returns-in_ok-v-in-Assign
act-returns-in_ok-v-in-Assign t c =
    let f : FitsSigned w32 c.in_ok-v-in-Assign.v = search rules in
    rw c.in-Assign.is (from_located (spot_at c.args.program.now c.args.at.now) (calls_at c.args.program.now c.args.at.now) (place_of c.in-Assign.target) (λ old u. value (spot_at c.args.program.now c.args.at.now) (calls_at c.args.program.now c.args.at.now) (tree_of c.in-Assign.e) u) (store_of c.args.store.now) _ _ _ _ _ c.in_ok-place-in-Assign.ensures.is (on_then _ _ _ _ _ _ _ c.in_ok-v-in-Assign.ensures.is (rw (to_z-of_z w32 c.in_ok-v-in-Assign.v f) at c.put.ensures)))

pub act-returns-in_err-v-in-Compound : goal.act-returns-in_err-v-in-Compound
act-returns-in_err-v-in-Compound t c =
    rw c.in-Compound.is (from_located (spot_at c.args.program.now c.args.at.now) (calls_at c.args.program.now c.args.at.now) (place_of c.in-Compound.target) (λ old u. and_then (value (spot_at c.args.program.now c.args.at.now) (calls_at c.args.program.now c.args.at.now) (tree_of c.in-Compound.e) u) (λ v w. combined c.in-Compound.operator old v w)) (store_of c.args.store.now) _ _ _ _ _ c.in_ok-place-in-Compound.ensures.is (stop_then (itself {A = ℤ}) _ _ c.in_err-v-in-Compound.field-0.0 _ _ _ c.from_residual-in_err-v-in-Compound.ensures.1 (stop_then _ itself (Err c.in_err-v-in-Compound.field-0.0) c.in_err-v-in-Compound.field-0.0 _ _ _ refl c.in_err-v-in-Compound.ensures)))

pub act-returns-in_err-new-in-Compound : goal.act-returns-in_err-new-in-Compound
act-returns-in_err-new-in-Compound t c =
    let f : FitsSigned w32 c.in_ok-v-in-Compound.v = search rules in
    let g : FitsSigned w32 c.held-old.result = search rules in
    rw c.in-Compound.is (from_located (spot_at c.args.program.now c.args.at.now) (calls_at c.args.program.now c.args.at.now) (place_of c.in-Compound.target) (λ old u. and_then (value (spot_at c.args.program.now c.args.at.now) (calls_at c.args.program.now c.args.at.now) (tree_of c.in-Compound.e) u) (λ v w. combined c.in-Compound.operator old v w)) (store_of c.args.store.now) _ _ _ _ _ c.in_ok-place-in-Compound.ensures.is (stop_then (itself {A = ℤ}) _ _ c.in_err-new-in-Compound.field-0.0 _ _ _ c.from_residual-in_err-new-in-Compound.ensures.1 (on_then itself (Err c.in_err-new-in-Compound.field-0.0) _ _ _ _ _ c.in_ok-v-in-Compound.ensures.is (rw (to_z-of_z w32 c.held-old.result g, to_z-of_z w32 c.in_ok-v-in-Compound.v f, c.held-old.ensures) at c.in_err-new-in-Compound.ensures))))

pub act-returns-in_ok-new-in-Compound : goal.act-returns-in_ok-new-in-Compound
act-returns-in_ok-new-in-Compound t c =
    let f : FitsSigned w32 c.in_ok-v-in-Compound.v = search rules in
    let g : FitsSigned w32 c.held-old.result = search rules in
    let h : FitsSigned w32 c.in_ok-new-in-Compound.new = search rules in
    rw c.in-Compound.is (from_located (spot_at c.args.program.now c.args.at.now) (calls_at c.args.program.now c.args.at.now) (place_of c.in-Compound.target) (λ old u. and_then (value (spot_at c.args.program.now c.args.at.now) (calls_at c.args.program.now c.args.at.now) (tree_of c.in-Compound.e) u) (λ v w. combined c.in-Compound.operator old v w)) (store_of c.args.store.now) _ _ _ _ _ c.in_ok-place-in-Compound.ensures.is (on_then _ _ _ c.in_ok-new-in-Compound.new _ _ _ (chain _ _ _ _ _ _ c.in_ok-v-in-Compound.ensures.is (rw (to_z-of_z w32 c.held-old.result g, to_z-of_z w32 c.in_ok-v-in-Compound.v f, c.held-old.ensures) at c.in_ok-new-in-Compound.ensures.is)) (rw (to_z-of_z w32 c.in_ok-new-in-Compound.new h) at c.put-in-Compound.ensures)))

pub act-returns-in_ok-place-in-Increase : goal.act-returns-in_ok-place-in-Increase
act-returns-in_ok-place-in-Increase t c =
    let f : FitsSigned w32 c.add32.result = search rules in
    let g : FitsSigned w32 c.held-old-in-Increase.result = search rules in
    rw c.in-Increase.is (from_located (spot_at c.args.program.now c.args.at.now) (calls_at c.args.program.now c.args.at.now) (place_of c.in-Increase.target) (λ old u. With (sum_of old (pos 1)) u) (store_of c.args.store.now) _ _ _ _ _ c.in_ok-place-in-Increase.ensures.is (rw (to_z-of_z w32 c.add32.result f, c.add32.ensures, to_z-of_z w32 c.held-old-in-Increase.result g, c.held-old-in-Increase.ensures) at c.put-in-Increase.ensures))

pub act-returns-in_ok-place-in-Decrease : goal.act-returns-in_ok-place-in-Decrease
act-returns-in_ok-place-in-Decrease t c =
    let f : FitsSigned w32 c.sub32.result = search rules in
    let g : FitsSigned w32 c.held-old-in-Decrease.result = search rules in
    rw c.in-Decrease.is (from_located (spot_at c.args.program.now c.args.at.now) (calls_at c.args.program.now c.args.at.now) (place_of c.in-Decrease.target) (λ old u. With (difference_of old (pos 1)) u) (store_of c.args.store.now) _ _ _ _ _ c.in_ok-place-in-Decrease.ensures.is (rw (to_z-of_z w32 c.sub32.result f, c.sub32.ensures, to_z-of_z w32 c.held-old-in-Decrease.result g, c.held-old-in-Decrease.ensures) at c.put-in-Decrease.ensures))

pub call-returns-in_err-left : goal.call-returns-in_err-left
call-returns-in_err-left t c = λ arguments ns gs.
    let there : slice_get c.args.program.now.functions.items c.args.f ≡ Some c.index-function.result.now = slice_get_read c.args.program.now.functions.items _ c.args.f c.index-function.result.now refl (search rules) c.index-function.ensures in
    let inner : store_of c.enter.new.self ≡ given_to c.index-function.result.now c.args.numbers.items (store_of c.args.store.now) = rw c.as_slice.ensures at c.in_ok-caller.ensures.entered in
    let base : c.in_ok-base.base ≡ length c.args.store.now.arrays = c.in_ok-base.ensures ∙ c.arrays-arrays.ensures in
    subst (Comes itself _ _) (sym (called c.args.program.now c.args.at.now.depth c.in_ok-base.base c.args.at.now.turns c.args.f c.args.given.now c.args.numbers.items arguments (store_of c.args.store.now) (store_of c.enter.new.self) c.index-function.result.now ns gs c.if-at-eq0.false there base inner)) (stop_result _ _ (store_of c.args.store.now) c.in_err-left.field-0.0 _ _ c.from_residual-in_err-left.ensures.1 (rw c.as_slice-2.ensures.value at c.in_err-left.ensures))

pub call-returns : goal.call-returns
call-returns t c = λ arguments ns gs.
    let there : slice_get c.args.program.now.functions.items c.args.f ≡ Some c.index-function.result.now = slice_get_read c.args.program.now.functions.items _ c.args.f c.index-function.result.now refl (search rules) c.index-function.ensures in
    let inner : store_of c.enter.new.self ≡ given_to c.index-function.result.now c.args.numbers.items (store_of c.args.store.now) = rw c.as_slice.ensures at c.in_ok-caller.ensures.entered in
    let base : c.in_ok-base.base ≡ length c.args.store.now.arrays = c.in_ok-base.ensures ∙ c.arrays-arrays.ensures in
    let f : FitsSigned w32 c.number_given.result = search rules in
    subst (Comes itself _ _) (sym (called c.args.program.now c.args.at.now.depth c.in_ok-base.base c.args.at.now.turns c.args.f c.args.given.now c.args.numbers.items arguments (store_of c.args.store.now) (store_of c.enter.new.self) c.index-function.result.now ns gs c.if-at-eq0.false there base inner)) (on_result (store_of c.args.store.now) c.in_ok-left.left (store_of c.execute_all.new.store) _ _ c.number_given.result (rw c.as_slice-2.ensures.value at c.in_ok-left.ensures.is) (rw (c.in_ok-caller.ensures.caller, c.arrays-arrays.ensures) at c.leave.ensures) f c.number_given.ensures)

pub evaluate_row-returns-in_err-x : goal.evaluate_row-returns-in_err-x
evaluate_row-returns-in_err-x t c =
    let h : c.loop-e.e-index < length c.args.row.now = omega arith in
    row_stop (spot_at c.args.program.now c.args.at.now) (calls_at c.args.program.now c.args.at.now) c.args.row.now c.loop-e.e-index (map NumberArgument c.loop-e.numbers.items) (store_of c.args.store.now) (store_of c.loop-e.store) c.e-item.result c.loop-e.invariant h c.e-item.is _ _ c.in_err-x.field-0.0 _ c.from_residual-in_err-x.ensures.1 c.in_err-x.ensures

pub evaluate_row-loop-e-preserved : goal.evaluate_row-loop-e-preserved
evaluate_row-loop-e-preserved t c =
    let h : c.loop-e.e-index < length c.args.row.now = omega arith in
    let f : FitsSigned w32 c.in_ok-x.x = search rules in
    let pushed : c.push.new.self.items ≡ c.loop-e.numbers.items ++ c.in_ok-x.x ∷ [] = rw (to_z-of_z w32 c.in_ok-x.x f) at c.in_ok-push.ensures.items in
    subst (λ l. value (spot_at c.args.program.now c.args.at.now) (calls_at c.args.program.now c.args.at.now) (row_in c.args.row.now) (store_of c.args.store.now) ≡ and_then (value (spot_at c.args.program.now c.args.at.now) (calls_at c.args.program.now c.args.at.now) (row_in (drop (c.loop-e.e-index + 1) c.args.row.now)) (store_of c.evaluate.new.store)) (λ xs u. With (map NumberArgument l ++ xs) u)) (sym pushed)
    (subst (λ l. value (spot_at c.args.program.now c.args.at.now) (calls_at c.args.program.now c.args.at.now) (row_in c.args.row.now) (store_of c.args.store.now) ≡ and_then (value (spot_at c.args.program.now c.args.at.now) (calls_at c.args.program.now c.args.at.now) (row_in (drop (c.loop-e.e-index + 1) c.args.row.now)) (store_of c.evaluate.new.store)) (λ xs u. With (l ++ xs) u)) (sym (one_more c.loop-e.numbers.items c.in_ok-x.x))
    (row_more (spot_at c.args.program.now c.args.at.now) (calls_at c.args.program.now c.args.at.now) c.args.row.now c.loop-e.e-index (map NumberArgument c.loop-e.numbers.items) (store_of c.args.store.now) (store_of c.loop-e.store) c.e-item.result c.loop-e.invariant h c.e-item.is c.in_ok-x.x (store_of c.evaluate.new.store) c.in_ok-x.ensures.is))

pub evaluate_arguments-loop-argument-init : goal.evaluate_arguments-loop-argument-init
evaluate_arguments-loop-argument-init t c = so_far_begin (spot_at c.args.program.now c.args.at.now) (calls_at c.args.program.now c.args.at.now) c.args.row.now c.new-numbers.result.items c.new-arrays.result.items (store_of c.args.store.now) c.new-numbers.ensures.items c.new-arrays.ensures.items

pub evaluate_arguments-loop-argument-preserved : goal.evaluate_arguments-loop-argument-preserved
evaluate_arguments-loop-argument-preserved t c =
    let h : c.loop-argument.argument-index < length c.args.row.now = omega arith in
    elim c.match-argument.branch [
      | evaluate_arguments-in-Number+in_ok-x-in-Number+in_ok-push-in-Number w ↦
          let f : FitsSigned w32 w.in_ok-x-in-Number.x = search rules in
          let pushed : w.push.new.self.items ≡ c.loop-argument.numbers.items ++ w.in_ok-x-in-Number.x ∷ [] = rw (to_z-of_z w32 w.in_ok-x-in-Number.x f) at w.in_ok-push-in-Number.ensures.items in
          rw (w.store-is, w.numbers-is, w.arrays-is) (number_more (spot_at c.args.program.now c.args.at.now) (calls_at c.args.program.now c.args.at.now) c.args.row.now c.loop-argument.argument-index c.loop-argument.numbers.items c.loop-argument.arrays.items (store_of c.args.store.now) (store_of c.loop-argument.store) c.argument-item.result c.loop-argument.invariant h c.argument-item.is w.in-Number.e w.in-Number.is w.in_ok-x-in-Number.x (store_of w.evaluate.new.store) w.push.new.self.items w.in_ok-x-in-Number.ensures.is pushed)
      | evaluate_arguments-in-Array+in_ok-push-in-Array w ↦
          rw (w.store-is, w.numbers-is, w.arrays-is) (array_more (spot_at c.args.program.now c.args.at.now) (calls_at c.args.program.now c.args.at.now) c.args.row.now c.loop-argument.argument-index c.loop-argument.numbers.items c.loop-argument.arrays.items (store_of c.args.store.now) (store_of c.loop-argument.store) c.argument-item.result c.loop-argument.invariant h c.argument-item.is w.in-Array.a w.spot.result w.in-Array.is w.spot.ensures w.push-in-Array.new.self.items w.in_ok-push-in-Array.ensures.items)
    ]

pub evaluate_arguments-returns : goal.evaluate_arguments-returns
evaluate_arguments-returns t c = so_far_end (spot_at c.args.program.now c.args.at.now) (calls_at c.args.program.now c.args.at.now) c.args.row.now c.loop-argument.argument-index _ (store_of c.args.store.now) c.loop-argument.store c.loop-argument.invariant (drop_all c.loop-argument.argument-index c.args.row.now c.loop-argument-test.false)

pub execute-returns-in_err-numbers-in-Print : goal.execute-returns-in_err-numbers-in-Print
execute-returns-in_err-numbers-in-Print t c =
    rw (c.in-Print.is, ← c.as_slice-in-Print.ensures.value) (stop_then _ _ _ c.in_err-numbers-in-Print.field-0.0 _ _ _ c.from_residual-in_err-numbers-in-Print.ensures.1 c.in_err-numbers-in-Print.ensures)

pub execute-returns-in_ok-print-in-Print : goal.execute-returns-in_ok-print-in-Print
execute-returns-in_ok-print-in-Print t c =
    rw (c.in-Print.is, ← c.as_slice-in-Print.ensures.value) (on_then _ _ _ _ _ _ _ c.in_ok-numbers-in-Print.ensures.is (rw (numbers_are c.in_ok-numbers-in-Print.numbers.items) (record { is = ap (With Falls) (sym (rw (c.as_slice-in-Print-2.ensures, c.as_slice-in-Print-3.ensures.value) at c.in_ok-print-in-Print.ensures)) })))

pub execute-returns-in-Block : goal.execute-returns-in-Block
execute-returns-in-Block t c =
    let e : code_of c.args.s.now ≡ tree.Block (all_in c.as_slice.result.now) = ap code_of c.in-Block.is ∙ view_Block c.in-Block.all ∙ ap (λ l. tree.Block (all_in l)) (sym c.as_slice.ensures.value) in
    rw e c.execute_all.ensures

pub execute-returns-in_ok-begin-in-For : goal.execute-returns-in_ok-begin-in-For
execute-returns-in_ok-begin-in-For t c =
    rw (c.in-For.is, ← c.deref-in-For.ensures) (fall_on _ _ _ _ _ _ c.in_ok-begin-in-For.ensures.is c.repeat_for.ensures)

pub repeat_do-returns-in-Some : goal.repeat_do-returns-in-Some
repeat_do-returns-in-Some t c =
    let h : 0 < c.loop-left.left = omega arith in
    do_out (value (spot_at c.args.program.now c.args.at.now) (calls_at c.args.program.now c.args.at.now) (tree_of c.args.test.now)) (does (spot_at c.args.program.now c.args.at.now) (calls_at c.args.program.now c.args.at.now) c.args.at.now.turns (code_of c.args.body.now)) c.args.at.now.turns c.loop-left.left (store_of c.args.store.now) (store_of c.loop-left.store) h c.loop-left.invariant c.in_ok-how.how (store_of c.execute.new.store) c.in_ok-how.ensures.is c.in-Some.out c.execute.new.store refl c.in-Some.ensures

pub repeat_do-returns-in_err-evaluate : goal.repeat_do-returns-in_err-evaluate
repeat_do-returns-in_err-evaluate t c =
    let h : 0 < c.loop-left.left = omega arith in
    subst (Comes _ _ _) (sym (do_on (value (spot_at c.args.program.now c.args.at.now) (calls_at c.args.program.now c.args.at.now) (tree_of c.args.test.now)) (does (spot_at c.args.program.now c.args.at.now) (calls_at c.args.program.now c.args.at.now) c.args.at.now.turns (code_of c.args.body.now)) c.args.at.now.turns c.loop-left.left (store_of c.args.store.now) (store_of c.loop-left.store) h c.loop-left.invariant c.in_ok-how.how (store_of c.execute.new.store) c.in_ok-how.ensures.is c.in_default.ensures)) (stop_then _ _ _ c.in_err-evaluate.field-0.0 _ _ _ c.from_residual-in_err-evaluate.ensures.1 c.in_err-evaluate.ensures)

pub repeat_do-returns-then-branch-eq0 : goal.repeat_do-returns-then-branch-eq0
repeat_do-returns-then-branch-eq0 t c =
    let h : 0 < c.loop-left.left = omega arith in
    let f : FitsSigned w32 c.in_ok-evaluate.field-0 = search rules in
    subst (Comes _ _ _) (sym (do_on (value (spot_at c.args.program.now c.args.at.now) (calls_at c.args.program.now c.args.at.now) (tree_of c.args.test.now)) (does (spot_at c.args.program.now c.args.at.now) (calls_at c.args.program.now c.args.at.now) c.args.at.now.turns (code_of c.args.body.now)) c.args.at.now.turns c.loop-left.left (store_of c.args.store.now) (store_of c.loop-left.store) h c.loop-left.invariant c.in_ok-how.how (store_of c.execute.new.store) c.in_ok-how.ensures.is c.in_default.ensures)) (on_then _ _ _ _ _ _ _ c.in_ok-evaluate.ensures.is (go_around _ _ _ c.in_ok-evaluate.field-0 _ _ f c.if-branch-eq0.true (record { is = refl })))

pub repeat_do-loop-left-preserved : goal.repeat_do-loop-left-preserved
repeat_do-loop-left-preserved t c =
    let h : 0 < c.loop-left.left = omega arith in
    do_more (value (spot_at c.args.program.now c.args.at.now) (calls_at c.args.program.now c.args.at.now) (tree_of c.args.test.now)) (does (spot_at c.args.program.now c.args.at.now) (calls_at c.args.program.now c.args.at.now) c.args.at.now.turns (code_of c.args.body.now)) c.args.at.now.turns c.loop-left.left (store_of c.args.store.now) (store_of c.loop-left.store) h c.loop-left.invariant c.in_ok-how.how (store_of c.execute.new.store) c.in_ok-how.ensures.is c.in_default.ensures c.in_ok-evaluate.field-0 (store_of c.evaluate.new.store) c.in_ok-evaluate.ensures.is c.if-branch-eq0.false

pub repeat_for-returns-in_err-how : goal.repeat_for-returns-in_err-how
repeat_for-returns-in_err-how t c =
    let h : 0 < c.loop-left.left = omega arith in
    for_stop (test_of (spot_at c.args.program.now c.args.at.now) (calls_at c.args.program.now c.args.at.now) (option_map tree_of c.args.test.now)) (does (spot_at c.args.program.now c.args.at.now) (calls_at c.args.program.now c.args.at.now) c.args.at.now.turns (code_of c.args.body.now)) (does (spot_at c.args.program.now c.args.at.now) (calls_at c.args.program.now c.args.at.now) c.args.at.now.turns (step_of c.args.step.now)) c.args.at.now.turns c.loop-left.left (store_of c.args.store.now) (store_of c.loop-left.store) h c.loop-left.invariant c.in_ok-holds.field-0 (store_of c.holds.new.store) c.in_ok-holds.ensures.is c.if-branch-eq0.false _ _ _ c.in_err-how.field-0.0 _ c.from_residual-in_err-how.ensures.1 c.in_err-how.ensures

pub repeat_for-returns-in-Some : goal.repeat_for-returns-in-Some
repeat_for-returns-in-Some t c =
    let h : 0 < c.loop-left.left = omega arith in
    for_out (test_of (spot_at c.args.program.now c.args.at.now) (calls_at c.args.program.now c.args.at.now) (option_map tree_of c.args.test.now)) (does (spot_at c.args.program.now c.args.at.now) (calls_at c.args.program.now c.args.at.now) c.args.at.now.turns (code_of c.args.body.now)) (does (spot_at c.args.program.now c.args.at.now) (calls_at c.args.program.now c.args.at.now) c.args.at.now.turns (step_of c.args.step.now)) c.args.at.now.turns c.loop-left.left (store_of c.args.store.now) (store_of c.loop-left.store) h c.loop-left.invariant c.in_ok-holds.field-0 (store_of c.holds.new.store) c.in_ok-holds.ensures.is c.if-branch-eq0.false c.in_ok-how.how (store_of c.execute.new.store) c.in_ok-how.ensures.is c.in-Some.out c.execute.new.store refl c.in-Some.ensures

pub repeat_for-returns-in_err-advance : goal.repeat_for-returns-in_err-advance
repeat_for-returns-in_err-advance t c =
    let h : 0 < c.loop-left.left = omega arith in
    for_step_stop (test_of (spot_at c.args.program.now c.args.at.now) (calls_at c.args.program.now c.args.at.now) (option_map tree_of c.args.test.now)) (does (spot_at c.args.program.now c.args.at.now) (calls_at c.args.program.now c.args.at.now) c.args.at.now.turns (code_of c.args.body.now)) (does (spot_at c.args.program.now c.args.at.now) (calls_at c.args.program.now c.args.at.now) c.args.at.now.turns (step_of c.args.step.now)) c.args.at.now.turns c.loop-left.left (store_of c.args.store.now) (store_of c.loop-left.store) h c.loop-left.invariant c.in_ok-holds.field-0 (store_of c.holds.new.store) c.in_ok-holds.ensures.is c.if-branch-eq0.false c.in_ok-how.how (store_of c.execute.new.store) c.in_ok-how.ensures.is _ _ _ c.in_err-advance.field-0.0 _ c.in_default.ensures c.from_residual-in_err-advance.ensures.1 c.in_err-advance.ensures

pub repeat_for-loop-left-preserved : goal.repeat_for-loop-left-preserved
repeat_for-loop-left-preserved t c =
    let h : 0 < c.loop-left.left = omega arith in
    for_more (test_of (spot_at c.args.program.now c.args.at.now) (calls_at c.args.program.now c.args.at.now) (option_map tree_of c.args.test.now)) (does (spot_at c.args.program.now c.args.at.now) (calls_at c.args.program.now c.args.at.now) c.args.at.now.turns (code_of c.args.body.now)) (does (spot_at c.args.program.now c.args.at.now) (calls_at c.args.program.now c.args.at.now) c.args.at.now.turns (step_of c.args.step.now)) c.args.at.now.turns c.loop-left.left (store_of c.args.store.now) (store_of c.loop-left.store) h c.loop-left.invariant c.in_ok-holds.field-0 (store_of c.holds.new.store) c.in_ok-holds.ensures.is c.if-branch-eq0.false c.in_ok-how.how (store_of c.execute.new.store) c.in_ok-how.ensures.is c.in_default.ensures (store_of c.advance.new.store) c.in_ok-advance.ensures.is

pub repeat_while-loop-left-preserved : goal.repeat_while-loop-left-preserved
repeat_while-loop-left-preserved t c =
    let h : 0 < c.loop-left.left = omega arith in
    while_more (value (spot_at c.args.program.now c.args.at.now) (calls_at c.args.program.now c.args.at.now) (tree_of c.args.test.now)) (does (spot_at c.args.program.now c.args.at.now) (calls_at c.args.program.now c.args.at.now) c.args.at.now.turns (code_of c.args.body.now)) c.args.at.now.turns c.loop-left.left (store_of c.args.store.now) (store_of c.loop-left.store) h c.loop-left.invariant c.in_ok-evaluate.field-0 (store_of c.evaluate.new.store) c.in_ok-evaluate.ensures.is c.if-branch-eq0.false c.in_ok-how.how (store_of c.execute.new.store) c.in_ok-how.ensures.is c.in_default.ensures
