use Rattle.std.proofs.Common.{ap, sym}
use Rattle.std.proofs.lemmas.Result.{on_ok_weaker}
use Rattle.vx_ast.specs.Tree.{InLocal, InGlobal, InElement}
use Rattle.vx_ast.specs.View.{tree_of, place_of}
use Rattle.vx_lower.specs.Does.{action_of}
use Rattle.vx_lower.specs.Makes.{step_change}
use Rattle.vx_lower.proofs.ActionMaking.{acted_as, changes_local, changes_global, changes_element}
use Rattle.vx_lower.proofs.FittingActions.{acts_well_as, change_element_well, change_global_well, change_local_well}
use Rattle.vx_lower.proofs.actions.step.Goals as goal

pub returns-in_ok-stepped-in-Scalar-clause-code : goal.returns-in_ok-stepped-in-Scalar-clause-code
returns-in_ok-stepped-in-Scalar-clause-code c =
    acted_as c.args.words.now c.args.b.now c.stepped.new.b (action_of (InLocal c.in-Scalar.x) (step_change c.args.up)) (action_of (place_of c.args.target.now) (step_change c.args.up)) (ap (λ z. action_of (place_of z) (step_change c.args.up)) (sym c.in-Scalar.is))
    (changes_local c.args.words.now c.in-Scalar.x c.in_ok-stepped-in-Scalar.field-0 (step_change c.args.up) c.args.b.now c.stepped.new.b (c.in_ok-stepped-in-Scalar.ensures.code c.args.words.now))

pub returns-in_ok-stepped-in-Scalar-clause-fits : goal.returns-in_ok-stepped-in-Scalar-clause-fits
returns-in_ok-stepped-in-Scalar-clause-fits c =
    acts_well_as c.args.b.now c.stepped.new.b (action_of (InLocal c.in-Scalar.x) (step_change c.args.up)) (action_of (place_of c.args.target.now) (step_change c.args.up)) (ap (λ z. action_of (place_of z) (step_change c.args.up)) (sym c.in-Scalar.is))
    (change_local_well c.in-Scalar.x c.in_ok-stepped-in-Scalar.field-0 (step_change c.args.up) c.args.b.now c.stepped.new.b (c.in_ok-stepped-in-Scalar.ensures.fits c.args.words.now))

pub returns-in_ok-new-in-Global-clause-code : goal.returns-in_ok-new-in-Global-clause-code
returns-in_ok-new-in-Global-clause-code c =
    on_ok_weaker c.store.result (λ h. acted_as c.args.words.now c.args.b.now c.store.new.b (action_of (InGlobal c.in-Global.array) (step_change c.args.up)) (action_of (place_of c.args.target.now) (step_change c.args.up)) (ap (λ z. action_of (place_of z) (step_change c.args.up)) (sym c.in-Global.is))
    (changes_global c.args.words.now c.in-Global.array c.in_ok-old-in-Global.old c.in_ok-new-in-Global.new (step_change c.args.up) c.args.b.now c.load.new.b c.stepped-in-Global.new.b c.store.new.b c.in_ok-old-in-Global.ensures.code (c.in_ok-new-in-Global.ensures.code c.args.words.now) h)) c.store.ensures.code

pub returns-in_ok-new-in-Global-clause-fits : goal.returns-in_ok-new-in-Global-clause-fits
returns-in_ok-new-in-Global-clause-fits c =
    on_ok_weaker c.store.result (λ h. acts_well_as c.args.b.now c.store.new.b (action_of (InGlobal c.in-Global.array) (step_change c.args.up)) (action_of (place_of c.args.target.now) (step_change c.args.up)) (ap (λ z. action_of (place_of z) (step_change c.args.up)) (sym c.in-Global.is))
    (change_global_well c.in-Global.array c.in_ok-old-in-Global.old c.in_ok-new-in-Global.new (step_change c.args.up) c.args.b.now c.load.new.b c.stepped-in-Global.new.b c.store.new.b c.in_ok-old-in-Global.ensures.steps ((c.in_ok-new-in-Global.ensures.fits c.args.words.now)) h)) c.store.ensures.steps

pub returns-in_ok-new-in-Element-clause-code : goal.returns-in_ok-new-in-Element-clause-code
returns-in_ok-new-in-Element-clause-code c =
    on_ok_weaker c.store-in-Element.result (λ h. acted_as c.args.words.now c.args.b.now c.store-in-Element.new.b (action_of (InElement c.in-Element.array (tree_of c.in-Element.i)) (step_change c.args.up)) (action_of (place_of c.args.target.now) (step_change c.args.up)) (ap (λ z. action_of (place_of z) (step_change c.args.up)) (sym c.in-Element.is))
    (changes_element c.args.words.now c.in-Element.array c.in_ok-place-in-Element.place c.in_ok-old-in-Element.old c.in_ok-new-in-Element.new (tree_of c.in-Element.i) c.in_ok-index-in-Element.index (step_change c.args.up) c.args.b.now c.emit_value.new.b c.check.new.b c.load-in-Element.new.b c.stepped-in-Element.new.b c.store-in-Element.new.b c.in_ok-index-in-Element.ensures.code c.in_ok-place-in-Element.ensures.code c.in_ok-old-in-Element.ensures.code (c.in_ok-new-in-Element.ensures.code c.args.words.now) h)) c.store-in-Element.ensures.code

pub returns-in_ok-new-in-Element-clause-fits : goal.returns-in_ok-new-in-Element-clause-fits
returns-in_ok-new-in-Element-clause-fits c =
    on_ok_weaker c.store-in-Element.result (λ h. acts_well_as c.args.b.now c.store-in-Element.new.b (action_of (InElement c.in-Element.array (tree_of c.in-Element.i)) (step_change c.args.up)) (action_of (place_of c.args.target.now) (step_change c.args.up)) (ap (λ z. action_of (place_of z) (step_change c.args.up)) (sym c.in-Element.is))
    (change_element_well c.in-Element.array c.in_ok-place-in-Element.place c.in_ok-old-in-Element.old c.in_ok-new-in-Element.new (tree_of c.in-Element.i) c.in_ok-index-in-Element.index (step_change c.args.up) c.args.b.now c.emit_value.new.b c.check.new.b c.load-in-Element.new.b c.stepped-in-Element.new.b c.store-in-Element.new.b c.in_ok-index-in-Element.ensures.fits c.in_ok-place-in-Element.ensures.fits c.in_ok-old-in-Element.ensures.steps ((c.in_ok-new-in-Element.ensures.fits c.args.words.now)) h)) c.store-in-Element.ensures.steps
