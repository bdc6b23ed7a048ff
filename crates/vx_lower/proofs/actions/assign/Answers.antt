use Rattle.std.proofs.Common.{ap, sym}
use Rattle.std.proofs.lemmas.Result.{on_ok_weaker}
use Rattle.vx_ast.specs.Tree.{Assign, InLocal, InGlobal, InElement}
use Rattle.vx_ast.specs.View.{tree_of, place_of}
use Rattle.vx_lower.proofs.ActionMaking.{acted_as, acts_local, acts_global, acts_element}
use Rattle.vx_lower.proofs.FittingActions.{acts_well_as, assign_element_well, assign_global_well, assign_local_well}
use Rattle.vx_lower.proofs.actions.assign.Goals as goal

pub returns-in_ok-emit_value-in-Scalar-clause-code : goal.returns-in_ok-emit_value-in-Scalar-clause-code
returns-in_ok-emit_value-in-Scalar-clause-code c =
    acted_as c.args.words.now c.args.b.now c.emit_value.new.b (Assign (InLocal c.in-Scalar.x) (tree_of c.args.e.now)) (Assign (place_of c.args.target.now) (tree_of c.args.e.now)) (ap (λ z. Assign (place_of z) (tree_of c.args.e.now)) (sym c.in-Scalar.is))
    (acts_local c.args.words.now c.in-Scalar.x (tree_of c.args.e.now) c.in_ok-emit_value-in-Scalar.field-0 c.args.b.now c.emit_value.new.b c.in_ok-emit_value-in-Scalar.ensures.code)

pub returns-in_ok-emit_value-in-Scalar-clause-fits : goal.returns-in_ok-emit_value-in-Scalar-clause-fits
returns-in_ok-emit_value-in-Scalar-clause-fits c =
    acts_well_as c.args.b.now c.emit_value.new.b (Assign (InLocal c.in-Scalar.x) (tree_of c.args.e.now)) (Assign (place_of c.args.target.now) (tree_of c.args.e.now)) (ap (λ z. Assign (place_of z) (tree_of c.args.e.now)) (sym c.in-Scalar.is))
    (assign_local_well c.in-Scalar.x (tree_of c.args.e.now) c.in_ok-emit_value-in-Scalar.field-0 c.args.b.now c.emit_value.new.b c.in_ok-emit_value-in-Scalar.ensures.fits)

pub returns-in_ok-from-in-Global-clause-code : goal.returns-in_ok-from-in-Global-clause-code
returns-in_ok-from-in-Global-clause-code c =
    on_ok_weaker c.store.result (λ h. acted_as c.args.words.now c.args.b.now c.store.new.b (Assign (InGlobal c.in-Global.array) (tree_of c.args.e.now)) (Assign (place_of c.args.target.now) (tree_of c.args.e.now)) (ap (λ z. Assign (place_of z) (tree_of c.args.e.now)) (sym c.in-Global.is))
    (acts_global c.args.words.now c.in-Global.array (tree_of c.args.e.now) c.in_ok-from-in-Global.from c.args.b.now c.emit_value-in-Global.new.b c.store.new.b c.in_ok-from-in-Global.ensures.code h)) c.store.ensures.code

pub returns-in_ok-from-in-Global-clause-fits : goal.returns-in_ok-from-in-Global-clause-fits
returns-in_ok-from-in-Global-clause-fits c =
    on_ok_weaker c.store.result (λ h. acts_well_as c.args.b.now c.store.new.b (Assign (InGlobal c.in-Global.array) (tree_of c.args.e.now)) (Assign (place_of c.args.target.now) (tree_of c.args.e.now)) (ap (λ z. Assign (place_of z) (tree_of c.args.e.now)) (sym c.in-Global.is))
    (assign_global_well c.in-Global.array (tree_of c.args.e.now) c.in_ok-from-in-Global.from c.args.b.now c.emit_value-in-Global.new.b c.store.new.b c.in_ok-from-in-Global.ensures.fits h)) c.store.ensures.steps

pub returns-in_ok-from-in-Element-clause-code : goal.returns-in_ok-from-in-Element-clause-code
returns-in_ok-from-in-Element-clause-code c =
    on_ok_weaker c.store-in-Element.result (λ h. acted_as c.args.words.now c.args.b.now c.store-in-Element.new.b (Assign (InElement c.in-Element.array (tree_of c.in-Element.i)) (tree_of c.args.e.now)) (Assign (place_of c.args.target.now) (tree_of c.args.e.now)) (ap (λ z. Assign (place_of z) (tree_of c.args.e.now)) (sym c.in-Element.is))
    (acts_element c.args.words.now c.in-Element.array c.in_ok-place-in-Element.place (tree_of c.in-Element.i) (tree_of c.args.e.now) c.in_ok-index-in-Element.index c.in_ok-from-in-Element.from c.args.b.now c.emit_value-in-Element.new.b c.check.new.b c.emit_value-in-Element-2.new.b c.store-in-Element.new.b c.in_ok-index-in-Element.ensures.code c.in_ok-place-in-Element.ensures.code c.in_ok-from-in-Element.ensures.code h)) c.store-in-Element.ensures.code

pub returns-in_ok-from-in-Element-clause-fits : goal.returns-in_ok-from-in-Element-clause-fits
returns-in_ok-from-in-Element-clause-fits c =
    on_ok_weaker c.store-in-Element.result (λ h. acts_well_as c.args.b.now c.store-in-Element.new.b (Assign (InElement c.in-Element.array (tree_of c.in-Element.i)) (tree_of c.args.e.now)) (Assign (place_of c.args.target.now) (tree_of c.args.e.now)) (ap (λ z. Assign (place_of z) (tree_of c.args.e.now)) (sym c.in-Element.is))
    (assign_element_well c.in-Element.array c.in_ok-place-in-Element.place (tree_of c.in-Element.i) (tree_of c.args.e.now) c.in_ok-index-in-Element.index c.in_ok-from-in-Element.from c.args.b.now c.emit_value-in-Element.new.b c.check.new.b c.emit_value-in-Element-2.new.b c.store-in-Element.new.b c.in_ok-index-in-Element.ensures.fits c.in_ok-place-in-Element.ensures.fits c.in_ok-from-in-Element.ensures.fits h)) c.store-in-Element.ensures.steps
